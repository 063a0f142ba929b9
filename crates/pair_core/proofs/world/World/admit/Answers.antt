use Rattle.std.proofs.Common.{rules, ◌∙◌, sym, ap, subst, length}
use Rattle.pair_core.specs.{Invariant.Holds, internal.WorldFields.pair_of}
use Rattle.pair_core.proofs.Calls.{on_err}
use Rattle.pair_core.specs.laws.AllLands.{admitted_holds}
use Rattle.pair_core.specs.laws.Outcomes.{admit_by_table, done_by_table, refused_by_table, wanted_by_table}
use Rattle.pair_record.specs.{laws.Tables.{client_range, passed}, Protocol.admit_of}
use Rattle.pair_record.specs.declared.event.Reply.TheVariants as replies
use Rattle.pair_core.proofs.world.World.admit.Goals as goal

pub returns-in_err-why-in-Err : goal.returns-in_err-why-in-Err
returns-in_err-why-in-Err c = (
  search rules,
  search rules,
  (let table = admit_by_table (pair_of c.self.inside) c.self.invariant c.args.client in
      rw (← c.self.view_is) (on_err _ _ (wanted_by_table table c.in-Err.why _ c.in-Err.ensures.why c.in_err-why-in-Err.ensures.memory))),
  search rules,
)

pub returns : goal.returns
returns c = (
  (let table = admit_by_table (pair_of c.self.inside) c.self.invariant c.args.client in
      rw (← c.self.view_is) (refused_by_table table c.in-Err.why _ _ c.in-Err.ensures.why c.in_ok-why-in-Err.ensures.same
      c.in_ok-why-in-Err.ensures.other c.in-Err.ensures.refused.0)),
  search rules,
  search rules,
  search rules,
)

pub invariant_of-self : goal.invariant_of-self
invariant_of-self c =
    let w = pair_of c.self.inside in
    let client = c.args.client in
    let e = c.in-Ok-Some.ensures in
    let range = client_range client (length w.ports.boxes) (passed _ _ _ e.free).0 in
    let first = rw c.in-Ok-Some.field-0-is at e.first in
    let protocol = rw c.in-Ok-Some.field-0-is at e.protocol in
    let ports = rw c.in-Ok-Some.field-0-is at e.ports in
    subst Holds (λ i. record w { protocol = record w.protocol { state = sym protocol i }; ports = sym ports i; nodes = sym c.arrive.ensures i })
    (admitted_holds w c.self.invariant c.keep.ensures.record client c.in-Ok-Some.number c.in-Ok-Some.frame range.0 range.1 (sym first))

pub returns-in-Ok-Some : goal.returns-in-Ok-Some
returns-in-Ok-Some c = (
  (let w = pair_of c.self.inside in
      let e = c.in-Ok-Some.ensures in
      let first = rw c.in-Ok-Some.field-0-is at e.first in
      let protocol = rw c.in-Ok-Some.field-0-is at e.protocol in
      (λ i. (replies.Admitted c.in-Ok-Some.number, protocol i)) ∙ ap (admit_of w.protocol.state) first
      ∙ rw (← c.self.view_is) (done_by_table (admit_by_table w c.self.invariant c.args.client) e.free)),
  search rules,
  search rules,
  search rules,
)

pub returns-in-Ok-None : goal.returns-in-Ok-None
returns-in-Ok-None c = (
  (let w = pair_of c.self.inside in
      let e = c.in-Ok-None.ensures in
      let first = rw c.in-Ok-None.field-0-is at e.first in
      let protocol = rw c.in-Ok-None.field-0-is at e.protocol in
      (λ i. (replies.Empty, protocol i)) ∙ ap (admit_of w.protocol.state) first
      ∙ rw (← c.self.view_is) (done_by_table (admit_by_table w c.self.invariant c.args.client) e.free)),
  search rules,
  search rules,
  search rules,
)
