use Rattle.std.proofs.Common.{◌++◌, [], ◌∷◌, arith, sym, ap, ◌∙◌, subst}
use Rattle.growing_history.specs.Steps.{Step}
use Rattle.growing_history.specs.LogState.{LegalSteps}
use Rattle.growing_history.proofs.Moves.{counts}
use Rattle.growing_history.proofs.seats.count.Goals as goal

pub fetch_add-requires : goal.fetch_add-requires
fetch_add-requires g c =
    let r = c.requires in
    let t = c.args.clock.now in
    let v = c.args.keeper.now.me.0 in
    let x : Step = g.S.Announced.step in (
      r.word ∙ sym t.named,
      omega (arith, t.one_word),
      counts _ _ v _ g.P.Pair.start x r.keeper.0 r.start (ap (λ (y : Step). y.by) r.step) r.room
          (subst (λ (y : Step). LegalSteps g.P.Pair.start (v.steps ++ y ∷ [])) (sym r.step) r.legal),
    )
