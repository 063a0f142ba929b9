use Rattle.std.proofs.Common.{◌≡◌, ℕ, ◌++◌, [], ◌∷◌, List, length, sym, ap, ◌∙◌, subst, refl}
use Rattle.growing_history.specs.Steps.{What, Step, step, steps_by}
use Rattle.growing_history.specs.LogState.{LegalSteps}
use Rattle.growing_history.specs.Views.{View, Member, Keeper, only_view, IsMember}
use Rattle.growing_history.specs.Plays.{Meets, with_member, member_of, stepped}
use Rattle.growing_history.proofs.Members.{own_steps, IsMember-stepped}
use Rattle.growing_history.proofs.seats.KeeperSeat.step.Goals as goal

pub invariant_of-member : goal.invariant_of-member
invariant_of-member g c =
    let start = g.P.Pair.start in
    let v = c.self.inside.seat.me.0 in
    let w = only_view c.member.inside.seat.views in
    let said : What = g.W.Tells.what c.args.what.now in
    let joined : c.lend.new.keeper.me.0 ≡ with_member v w =
    ap (λ m. m.0) c.lend.ensures.keeper ∙ ap (λ b. with_member v (only_view b.views)) c.replace-lent.ensures.value in
    let views : c.take_back-back.result.views ≡ member_of (stepped (step w.number said) (with_member v w)) ∷ [] =
    c.take_back-back.ensures.member
    ∙ (ap (λ m. member_of m.0 ∷ []) c.count.ensures.keeper
    ∙ ap (λ (u : View). member_of (stepped (step u.number said) u) ∷ []) joined) in
    let met = subst (λ (u : View). Meets u (length u.steps)) joined c.count.ensures.meets in
    let legal : LegalSteps start (v.steps ++ step w.number said ∷ []) =
    subst (λ (l : List Step). LegalSteps start (l ++ step w.number said ∷ [])) (sym (ap (λ (k : Keeper). k.steps) c.self.view_is))
    (subst (λ (n : ℕ). LegalSteps start (c.args.self.now.steps ++ step n said ∷ []))
    (sym (ap (λ (m : Member). m.number) c.member.view_is)) c.requires.legal) in (
      c.take_back-back.ensures.word.1,
      subst (IsMember start) (sym views)
          (IsMember-stepped start v w (step w.number said) _ c.self.invariant.2 refl c.member.invariant.1.numbered met legal),
      c.member.invariant.2 ∙ sym (ap (λ l. (only_view l).number) views),
    )

pub returns-clause-own : goal.returns-clause-own
returns-clause-own g c =
    let v = c.self.inside.seat.me.0 in
    let w = only_view c.member.inside.seat.views in
    let said : What = g.W.Tells.what c.args.what.now in
    let x = step w.number said in
    let joined : c.lend.new.keeper.me.0 ≡ with_member v w =
    ap (λ m. m.0) c.lend.ensures.keeper ∙ ap (λ b. with_member v (only_view b.views)) c.replace-lent.ensures.value in
    let views : c.take_back-back.result.views ≡ member_of (stepped (step w.number said) (with_member v w)) ∷ [] =
    c.take_back-back.ensures.member
    ∙ (ap (λ m. member_of m.0 ∷ []) c.count.ensures.keeper
    ∙ ap (λ (u : View). member_of (stepped (step u.number said) u) ∷ []) joined) in
    let met = subst (λ (u : View). Meets u (length u.steps)) joined c.count.ensures.meets in
    let now : steps_by w.number (only_view c.take_back-back.result.views).steps ≡ steps_by w.number w.steps ++ x ∷ [] =
    ap (λ l. steps_by w.number (only_view l).steps) views
    ∙ (own_steps g.P.Pair.start v w x _ refl c.member.invariant.1.numbered met ∙ ap (λ l. l ++ x ∷ []) c.member.invariant.1.mine) in
    subst (λ (m : Member). steps_by m.number
    (only_view c.take_back-back.result.views).steps ≡ steps_by m.number m.steps ++ step m.number said ∷ []) c.member.view_is now
