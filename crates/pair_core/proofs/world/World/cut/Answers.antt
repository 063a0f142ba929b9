use Rattle.std.proofs.Common.{rules, arith, ◌≡◌, ◌∙◌, ap, sym, subst, false, None}
use Rattle.pair_record.specs.declared.event.Event.TheVariants.{Cut}
use Rattle.pair_core.specs.{Invariant.Holds, Nodes.{Nodes, HasShape, machine_of, with_sealed}}
use Rattle.pair_record.specs.{declared.event.Reply.Reply, Modes.{is_alone, mode_refusal}}
use Rattle.pair_core.specs.{Replication.Replicates, Texts.IsText, Pair.Pair}
use Rattle.pair_record.specs.{Protocol.{Outcome, cut_refusals, cut_done}, declared.window.Window.Window}
use Rattle.pair_core.specs.internal.WorldFields.{pair_of}
use Rattle.epoch_snapshot.specs.Bases.{IsBase}
use Rattle.guest_rules.specs.Guest.{Guest}
use Rattle.pair_record.specs.laws.Modes.{primary_goes}
use Rattle.pair_core.specs.laws.Consistent.{in_mode, live_is}
use Rattle.pair_core.proofs.ReplicationLaws.{cut_replicates}
use Rattle.pair_record.specs.laws.Records.{cut_record}
use Rattle.pair_core.specs.laws.Events.{after_cut, cut_holds}
use Rattle.pair_core.specs.laws.Outcomes.{done_if_none_refuses, cut_sees_the_pair}
use Rattle.pair_core.proofs.world.World.cut.Goals.{In_ok-reply}
use Rattle.pair_core.proofs.world.World.cut.Goals as goal

-- no node is alone
two : {w v : Pair} → w ≡ v → mode_refusal v.protocol.state.mode Cut ≡ None → is_alone w.protocol.state.mode ≡ false
two {w} same goes = primary_goes w.protocol.state.mode (rw same goes)

-- what the record answered and left, by the live machine's outbox
done : (c : In_ok-reply) → (c.in_ok-reply.reply, c.cut.new.self.protocol) ≡ cut_done (pair_of c.self.inside).nodes.live.outbox
    (pair_of c.self.inside).protocol.state
done c = search (arith, rules)

-- the text makes the live guest of the one that the live machine was last settled at
makes : (c : In_ok-reply) (base : Guest) → IsBase (machine_of (pair_of c.self.inside).nodes.live) base
    → HasShape (pair_of c.self.inside).nodes.image.shape (pair_of c.self.inside).nodes.live.guest
    → IsText (pair_of c.self.inside).nodes.image.shape (pair_of c.self.inside).protocol.state.generation
    (pair_of c.self.inside).protocol.state.window.to_cut base (pair_of c.self.inside).nodes.live.guest
    (pair_of c.self.inside).nodes.live.outbox c.in_ok-text.text.items
makes c base is sized =
    let w = pair_of c.self.inside in
    let text = c.in_ok-text.text.items in
    rw (← ap (λ (x : Window). x.to_cut) c.window.ensures) (rw (← c.generation.ensures) (c.in_ok-text.ensures.text base is sized))

pub invariant_of-self-2 : goal.invariant_of-self-2
invariant_of-self-2 c =
    let w = pair_of c.self.inside in
    let protocol = ap (λ (o : Outcome). o.1) (done (goal.at.invariant_of-self-2 c).In_ok-reply) in
    let text = c.in_ok-text.text.items in
    let nodes = c.seal.ensures ∙ ap (λ (x : Nodes). with_sealed x text) c.checkpoint.ensures.nodes in
    subst Holds (λ i. record w { protocol = record w.protocol { state = sym protocol i }; ports = sym c.cut.ensures.ports i; nodes = sym nodes i })
    (cut_holds w c.self.invariant c.cut_refusal.ensures.record c.keep.ensures.numbers text
    (makes (goal.at.invariant_of-self-2 c).In_ok-reply))

pub returns : goal.returns
returns c = (
  (let w = pair_of c.self.inside in
      rw (← c.self.view_is) (done (goal.at.returns c).In_ok-reply
      ∙ done_if_none_refuses w.protocol.state (cut_refusals w.protocol.state) (cut_done w.nodes.live.outbox w.protocol.state)
      (sym c.cut_refusal.ensures.refusal ∙ c.in_default.is)
      ∙ cut_sees_the_pair w c.self.invariant)),
  (let w = pair_of c.self.inside in
      let text = c.in_ok-text.text.items in
      let nodes = c.seal.ensures ∙ ap (λ (x : Nodes). with_sealed x text) c.checkpoint.ensures.nodes in
      let reply = ap (λ (o : Outcome). o.0) (done (goal.at.returns c).In_ok-reply) in
      let h = c.self.invariant in
      let k = c.cut_refusal.ensures.record in
      let alone = two c.self.view_is c.requires in
      let now = in_mode w h k in
      let then = in_mode (after_cut w text) (cut_holds w h k c.keep.ensures.numbers text (makes (goal.at.returns c).In_ok-reply))
      (cut_record w.protocol.state k w.nodes.live.outbox alone (sym c.cut_refusal.ensures.refusal ∙ c.in_default.is)) in
      record {
        start = search rules;
        lines = search rules;
        replicates = rw (← c.self.view_is) (subst (λ (o : Reply × Nodes). Replicates Cut o.0 w.nodes o.1) (λ i. (sym reply i, sym nodes i)) (cut_replicates w
            k alone now text then (live_is w h)));
        refused = search rules;
      }),
  search rules,
  search rules,
)
