-- What a delta's text reads back as.
use Rattle.std.proofs.Common.{ap, List, ℕ, subst}
use Rattle.std.proofs.lemmas.Result.{IfOk-weaker}
use Rattle.epoch_snapshot.specs.Bases.{IsBase}
use Rattle.guest_rules.specs.Guest.{Guest, State}
use Rattle.guest_rules.specs.declared.shapes.Shape.{Shape}
use Rattle.pair_core.specs.Nodes.{HasShape, machine_of, node_of}
use Rattle.pair_core.specs.Texts.{IsText}
use Rattle.pair_core.specs.laws.Nodes.{base-of, delta-text}
use Rattle.pair_nodes.specs.Flagged.{Flagged}
use Rattle.pair_nodes.proofs.primary.PrimaryNode.delta.Goals as goal

-- it is the text of what this machine changed
abbrev IsOf : Shape → ℕ → ℕ → List ℕ → State → Type 0
IsOf shape generation number text m =
    (base : Guest) → IsBase (machine_of (node_of m)) base → HasShape shape m.guest → IsText shape generation number base m.guest m.outbox text

pub returns-clause-text : goal.returns-clause-text
returns-clause-text c =
    let m = c.machine.result.now in
    let shape = c.self.inside.shape in
    IfOk-weaker c.encode-text.result _ _
    (λ text reads. rw (← ap (λ (p : Flagged). p.primary) c.self.view_is)
    (subst (IsOf shape c.self.inside.generation.number c.self.inside.to_cut text.items) c.machine.ensures (λ base is sized.
    subst (λ n. IsText shape n c.self.inside.to_cut base m.guest m.outbox text.items) c.number-generation.ensures.number
    (delta-text m.settled m.dirty m.outbox m c.number-generation.result c.self.inside.to_cut c.in_ok-checkpoint.checkpoint shape text.items base
    c.in_ok-checkpoint.ensures.parts reads (c.in_ok-checkpoint.ensures.image base (base-of m base is)) sized)))) c.encode-text.ensures.read
