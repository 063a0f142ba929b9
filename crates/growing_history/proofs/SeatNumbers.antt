-- Who is live or protected has a number of its own: no client's, and not the line's.
use Rattle.std.proofs.Common.{◌≢◌, ℕ, zero, suc, ◌≤◌, List, [], ◌∷◌, length, arith}
use Rattle.pair_history.specs.HistoryState.{HistoryState}
use Rattle.growing_history.specs.Steps.{What, Sealed, WentLive, Protected, Step}
use Rattle.growing_history.specs.LogState.{LogState, line_seat, client_seat, last_seat, start_of, after_step, Needs, state_after}
use Rattle.growing_history.specs.LogState.{LegalFrom, LegalSteps, state_at}
use Rattle.growing_history.specs.laws.Seats.{seats-stay}

-- A number of the line's or of a client's is neither the runner's nor the backup's.

abbrev IsFree : LogState → ℕ → Type 0
IsFree s n = (s.runner ≢ n) × (s.backup ≢ n)

free-step : (s : LogState) (by : ℕ) (w : What) (n : ℕ) → Needs s (record { by = by; what = w }) → n ≤ last_seat s → IsFree s n
    → IsFree (after_step s w) n
free-step s by (Sealed g zero epoch text) n needs low free = free
free-step s by (Sealed g (suc k) epoch text) n needs low free = free
free-step s by (WentLive r) n needs low free = ((λ e. absurd (omega (arith, needs.may.2.2, low, e))), free.1)
free-step s by (Protected b) n needs low free = (free.0, λ e. absurd (omega (arith, needs.may.2.2, low, e)))
free-step s by other n needs low free = free

free-steps : (s : LogState) (xs : List Step) (n : ℕ) → LegalFrom s xs → n ≤ last_seat s → IsFree s n → IsFree (state_after s xs) n
free-steps s [] n l low free = free
free-steps s (x ∷ xs) n l low free =
    free-steps (after_step s x.what) xs n l.1 (omega (arith, seats-stay s x.what, low)) (free-step s x.by x.what n l.0 low free)

pub seats-apart : (h : HistoryState) (xs : List Step) (n : ℕ) → LegalSteps h xs → line_seat ≤ n → n ≤ client_seat (length h.boxes)
    → ((state_at h xs).runner ≢ n) × ((state_at h xs).backup ≢ n)
unfolding LegalSteps state_at
seats-apart h xs n l low high =
    free-steps (start_of h) xs n l high ((λ e. absurd (omega (arith, low, e))), λ e. absurd (omega (arith, low, e)))
