use Rattle.std.proofs.{Common.{rules, ℕ, subst, arith}, lemmas.Result.{IfOk-weaker}}
use Rattle.pair_core.specs.{internal.NodesFields.image_or, Texts.IsText}
use Rattle.pair_core.proofs.Calls.{on_ok}
use Rattle.pair_core.specs.laws.Nodes.{base-of, delta-text}
use Rattle.pair_core.proofs.nodes.Nodes.checkpoint.Goals as goal

pub returns-clause-text : goal.returns-clause-text
returns-clause-text c =
    let m = c.self.inside.live in
    let shape = (image_or c.self.inside.shape c.self.inside.image).shape in
    let generation = c.args.generation in
    IfOk-weaker c.encode.result _ _
    (λ text reads. rw (← c.self.view_is) (λ base is sized.
    subst (λ (n : ℕ). IsText shape generation n base m.guest m.outbox text.items) (omega arith)
    (delta-text m.settled m.dirty m.outbox m generation _ c.in_ok-checkpoint.checkpoint shape text.items base c.in_ok-checkpoint.ensures.parts
    reads (c.in_ok-checkpoint.ensures.image base (base-of m base is)) sized))) c.encode.ensures.read

pub returns-clause-room : goal.returns-clause-room
returns-clause-room c = on_ok c.encode.result _ (search (arith, rules))
