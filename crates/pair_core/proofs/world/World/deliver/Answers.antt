use Rattle.std.proofs.Common.{rules, ◌≡◌, ◌∙◌, false, None, ap, length, subst}
use Rattle.frame_ports.specs.Ports.{after_delivery}
use Rattle.pair_record.specs.declared.event.Event.TheVariants.{Deliver}
use Rattle.pair_record.specs.declared.event.Reply.TheVariants as replies
use Rattle.pair_record.specs.Protocol.{Outcome, allowed, deliver_refusals, deliver_done, delivery_refused}
use Rattle.pair_record.specs.laws.Tables.{delivery_free}
use Rattle.pair_core.specs.Pair.{Pair, AfterRefusal}
use Rattle.pair_core.specs.internal.WorldFields.{pair_of}
use Rattle.frame_ports.specs.Lands.{list_of}
use Rattle.pair_core.specs.laws.{Events.moved_to, ClientEvents.{deliver_holds, refused_holds, after_refusal}}
use Rattle.pair_core.proofs.Calls.{named_delivery, on_err}
use Rattle.pair_core.specs.laws.Outcomes.{delivery_is_done, delivery_is_refused, delivery_may_want}
use Rattle.pair_core.proofs.world.World.deliver.Goals as goal

pub invariant_of-self : goal.invariant_of-self
invariant_of-self c =
    let w = pair_of c.self.inside in
    let client = c.args.client in
    let bytes = c.args.bytes.now in
    let now = c.deliver.new.self in
    let rows = delivery_free false (length w.ports.boxes) (list_of w.ports.inboxes client) w.ports.next w.protocol.state client bytes
    c.in-Ok.ensures.free in
    moved_to w now.protocol (deliver_done w.protocol.state client (record { items = bytes }) w.ports.next).1 now.ports
    (after_delivery w.ports client bytes) (ap (λ (o : Outcome). o.1) c.in-Ok.ensures.done) c.in-Ok.ensures.ports
    (deliver_holds w c.self.invariant client rows.0 rows.1 bytes rows.2)

pub returns-in-Ok : goal.returns-in-Ok
returns-in-Ok c = (
  (let w = pair_of c.self.inside in
      let Out : Pair → Outcome = λ v. allowed v.start v.protocol.state None (Deliver c.args.client c.args.bytes) in
      let done = deliver_done w.protocol.state c.args.client (record { items = c.args.bytes.now }) w.ports.next in
      c.in-Ok.ensures.done
      ∙ subst (λ (v : Pair). done ≡ Out v) c.self.view_is (delivery_is_done w c.self.invariant c.args.client c.args.bytes.now c.in-Ok.ensures.free)),
  search rules,
  search rules,
  search rules,
)

pub returns-in_err-why-in-Err : goal.returns-in_err-why-in-Err
returns-in_err-why-in-Err c = (
  search rules,
  search rules,
  (rw (← c.self.view_is) (on_err _ _ (delivery_may_want (pair_of c.self.inside) c.self.invariant c.args.client c.args.bytes.now
      (rw c.in_err-why-in-Err.ensures.memory at c.in-Err.ensures.why)))),
  search rules,
)

pub invariant_of-self-2 : goal.invariant_of-self-2
invariant_of-self-2 c =
    let w = pair_of c.self.inside in
    let why = c.in-Err.why in
    let rows = (deliver_refusals false (length w.ports.boxes) (list_of w.ports.inboxes c.args.client) w.ports.next w.protocol.state
    c.args.client c.args.bytes.now) in
    refused_holds w c.self.invariant c.args.client c.args.bytes.now c.deliver.new.self.protocol
    c.deliver.new.self.ports c.in-Err.ensures.same why (named_delivery rows why c.in_ok-why-in-Err.ensures.other c.in-Err.ensures.why)
    c.in-Err.ensures.refused

pub returns : goal.returns
returns c = (
  (let w = pair_of c.self.inside in
      let why = c.in-Err.why in
      let Out : Pair → Outcome = λ v. allowed v.start v.protocol.state None (Deliver c.args.client c.args.bytes) in
      let rows = (deliver_refusals false (length w.ports.boxes) (list_of w.ports.inboxes c.args.client) w.ports.next w.protocol.state
      c.args.client c.args.bytes.now) in
      let done = delivery_refused w.protocol.state c.args.client (record { items = c.args.bytes.now }) why in
      (λ i. (replies.Refused (c.in_ok-why-in-Err.ensures.same i), c.deliver.new.self.protocol)) ∙ c.in-Err.ensures.refused
      ∙ subst (λ (v : Pair). done ≡ Out v) c.self.view_is (delivery_is_refused w c.self.invariant c.args.client c.args.bytes.now why
      (named_delivery rows why c.in_ok-why-in-Err.ensures.other c.in-Err.ensures.why))),
  (let w = pair_of c.self.inside in
      let now = c.deliver.new.self in
      let new = record w { protocol = record w.protocol { state = now.protocol }; ports = now.ports } in
      record {
        start = search rules;
        lines = search rules;
        replicates = search rules;
        refused = rw c.in_ok-why-in-Err.ensures.same (subst (λ (v : Pair). AfterRefusal c.in-Err.why v new) c.self.view_is
            (after_refusal w c.self.invariant c.args.client c.args.bytes.now now.protocol now.ports c.in-Err.ensures.same c.in-Err.why
            c.in-Err.ensures.refused));
      }),
  search rules,
  search rules,
)
