-- What a sealed text makes, by equal guests and frames; and texts that were sealed rightly, one step on.
use Rattle.std.proofs.Common.{◌≡◌, ℕ, zero, suc, List, [], ◌∷◌, ◌++◌, subst}
use Rattle.guest_rules.specs.Guest.{Guest}
use Rattle.pair_history.specs.Entries.{Frame}
use Rattle.pair_history.specs.HistoryState.{HistoryState}
use Rattle.growing_history.specs.Steps.{Step}
use Rattle.growing_history.specs.LogState.{LogState, start_of, after_step, state_after, state_at}
use Rattle.growing_history.specs.SealedTexts.{Reading, Makes, IsMade, AreMadeFrom, AreMade}

module _ (reads : Reading) where
  -- the guests of both ends, and the frames, may be named otherwise
  pub makes-same : (n : ℕ) (text : List ℕ) (fs gs : List Frame) (a b c d : Guest) → fs ≡ gs → a ≡ b → c ≡ d → Makes reads n text fs a c
      → Makes reads n text gs b d
  makes-same zero text fs gs a b c d r p q m =
      λ base. subst (λ (x : List Frame × Guest). reads text x.0 base x.1) (λ i. (r i, q i)) (m base)
  makes-same (suc n) text fs gs a b c d r p q m =
      subst (λ (x : List Frame × Guest × Guest). reads text x.0 x.1 x.2) (λ i. (r i, p i, q i)) m

  made-joined : (s : LogState) (xs : List Step) (x : Step) → AreMadeFrom reads s xs → IsMade reads (state_after s xs) x.what
      → AreMadeFrom reads s (xs ++ x ∷ [])
  made-joined s [] x m n = (n, tt)
  made-joined s (y ∷ xs) x m n = (m.0, made-joined (after_step s y.what) xs x m.1 n)

  pub made-nil : (h : HistoryState) → AreMade reads h []
  unfolding AreMade
  made-nil h = tt

  pub made-goes-on : (h : HistoryState) (xs : List Step) (x : Step) → AreMade reads h xs → IsMade reads (state_at h xs) x.what
      → AreMade reads h (xs ++ x ∷ [])
  unfolding AreMade state_at
  made-goes-on h xs x m n = made-joined (start_of h) xs x m n
