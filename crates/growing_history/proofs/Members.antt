-- What the keeper's step makes of the keeper's seat and of the member's.
use Rattle.std.proofs.Common.{◌≡◌, ℕ, ◌<◌, [], ◌∷◌, ◌++◌, sym, ap, ◌∙◌}
use Rattle.pair_history.specs.HistoryState.{HistoryState}
use Rattle.growing_history.specs.Steps.{Step, steps_by}
use Rattle.growing_history.specs.LogState.{LegalSteps}
use Rattle.growing_history.specs.Views.{View, IsKeeper, IsMember}
use Rattle.growing_history.specs.Plays.{Meets, with_member, member_of, stepped}
use Rattle.growing_history.specs.laws.Prefixes.{steps_by-own}

pub IsKeeper-stepped : (start : HistoryState) (v : View) (x : Step) → IsKeeper start v → LegalSteps start (v.steps ++ x ∷ [])
    → IsKeeper start (stepped x v)
IsKeeper-stepped start v x k legal = record { is = ap (stepped x) k.is; legal = legal }

module _ (start : HistoryState) (v w : View) (x : Step) (found : ℕ) where
  -- the member's own steps, with the further one
  pub own_steps : x.by ≡ w.number → 0 < w.number → Meets (with_member v w) found → steps_by w.number (v.steps ++ x ∷ []) ≡ w.mine ++ x ∷ []
  own_steps by numbered met = steps_by-own w.number v.steps x by ∙ ap (λ l. l ++ x ∷ []) (sym (met.mine numbered).1)

  pub IsMember-stepped : IsKeeper start v → x.by ≡ w.number → 0 < w.number → Meets (with_member v w) found → LegalSteps start (v.steps ++ x ∷ [])
      → IsMember start (member_of (stepped x (with_member v w)) ∷ [])
  IsMember-stepped k by numbered met legal = record {
    is = ap (λ (u : View). member_of (stepped x (with_member u w)) ∷ []) k.is;
    mine = sym (own_steps by numbered met);
    legal = legal;
    numbered = numbered;
  }
