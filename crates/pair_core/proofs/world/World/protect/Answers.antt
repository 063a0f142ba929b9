use Rattle.std.proofs.Common.{rules, ◌∙◌, ◌+◌, [], ap, sym, subst}
use Rattle.guest_rules.specs.Guest.{Guest}
use Rattle.frame_ports.specs.Limits.{number_limit}
use Rattle.pair_record.specs.declared.event.Event.TheVariants.{Protect}
use Rattle.pair_core.specs.{Invariant.Holds, Nodes.{Nodes, HasShape, with_protected}}
use Rattle.pair_record.specs.{Protocol.Outcome, declared.event.Reply.Reply}
use Rattle.pair_core.specs.{Texts.IsText, internal.WorldFields.pair_of}
use Rattle.pair_core.specs.{Replication.Replicates}
use Rattle.pair_record.specs.laws.{Modes.protect_goes, Tables.passed}
use Rattle.pair_core.specs.laws.{Consistent.keeps_nothing, Protected.protect_holds}
use Rattle.pair_core.proofs.world.World.protect.Goals.{In_ok-image}
use Rattle.std.proofs.lemmas.Bool.{leb-false}
use Rattle.pair_core.proofs.ReplicationLaws.{protect_replicates}
use Rattle.pair_core.proofs.world.World.protect.Goals as goal

-- the text makes the live guest, whatever guest it is applied to
makes : (c : In_ok-image) (before : Guest)
    → HasShape (pair_of c.self.inside).nodes.image.shape (pair_of c.self.inside).nodes.live.guest
    → IsText (pair_of c.self.inside).nodes.image.shape ((pair_of c.self.inside).protocol.state.generation + 1) 0 before
    (pair_of c.self.inside).nodes.live.guest [] c.in_ok-image.text.items
makes c before sized =
    let x = (pair_of c.self.inside).nodes in
    rw (← c.generation-generation.ensures) (c.in_ok-image.ensures.text before sized)

pub invariant_of-self-2 : goal.invariant_of-self-2
invariant_of-self-2 c =
    let w = pair_of c.self.inside in
    let text = c.in_ok-image.text.items in
    let goes = rw (← c.self.view_is) at c.requires in
    let lone = keeps_nothing w c.self.invariant c.keep.ensures.record (protect_goes w.protocol.state.mode goes) in
    let rows = passed _ _ _ (sym c.protect_refusal.ensures.refusal ∙ c.in_default.is) in
    let last = leb-false number_limit (w.protocol.state.generation + 1) rows.0 in
    let protocol = ap (λ (o : Outcome). o.1) c.in-Ok.ensures.ok in
    let nodes = c.protect-2.ensures ∙ ap (λ (x : Nodes). with_protected x text) c.full_checkpoint.ensures.nodes in
    subst Holds (λ i. record w { protocol = record w.protocol { state = sym protocol i }; ports = sym c.in-Ok.ensures.ports i; nodes = sym nodes i })
    (protect_holds w c.self.invariant lone last text (makes (goal.at.invariant_of-self-2 c).In_ok-image))

pub returns : goal.returns
returns c = (
  search rules,
  (let w = pair_of c.self.inside in
      let text = c.in_ok-image.text.items in
      let reply = ap (λ (o : Outcome). o.0) c.in-Ok.ensures.ok in
      let nodes = c.protect-2.ensures ∙ ap (λ (x : Nodes). with_protected x text) c.full_checkpoint.ensures.nodes in
      record {
        start = search rules;
        lines = search rules;
        replicates = rw (← c.self.view_is) (subst (λ (o : Reply × Nodes). Replicates Protect o.0 w.nodes o.1) (λ i. (sym reply i, sym nodes i))
            (protect_replicates w.nodes (c.generation-generation.result + 1) text (λ (before : Guest). c.in_ok-image.ensures.text before
            c.self.invariant.nodes.shape)));
        refused = search rules;
      }),
  search rules,
  search rules,
)
