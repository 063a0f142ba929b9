-- The greatest number of a client's seat stays that of the start.
use Rattle.std.proofs.Common.{◌≡◌, List, [], ◌∷◌, length, refl, ap, ◌∙◌}
use Rattle.pair_history.specs.HistoryState.{HistoryState}
use Rattle.pair_history.specs.laws.Histories.{boxes-stay}
use Rattle.growing_history.specs.Steps.{What, Step}
use Rattle.growing_history.specs.LogState.{LogState, client_seat, last_seat, start_of, added, after_step, state_after, state_at}
use Rattle.growing_history.specs.laws.Logs.{moved}

pub seats-stay : (s : LogState) (w : What) → last_seat (after_step s w) ≡ last_seat s
seats-stay s w = ap (λ (h : HistoryState). client_seat (length h.boxes)) (moved s w)
    ∙ ap client_seat (boxes-stay s.history (added s w))

seats-after : (s : LogState) (xs : List Step) → last_seat (state_after s xs) ≡ last_seat s
seats-after s [] = refl
seats-after s (x ∷ xs) = seats-after (after_step s x.what) xs ∙ seats-stay s x.what

pub seats-last : (h : HistoryState) (xs : List Step) → last_seat (state_at h xs) ≡ client_seat (length h.boxes)
unfolding state_at
seats-last h xs = seats-after (start_of h) xs
