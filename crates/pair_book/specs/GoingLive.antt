-- The backup goes live: what that does to the lent seat and to the keeper's list, and why it is refused.
use Rattle.std.specs.Prelude.{◌≡◌, ℕ, ◌+◌, ◌==◌, not, Bool, List, [], ◌∷◌, ◌++◌, Option, IsSome}
use Rattle.guest_rules.specs.Guest.{Guest}
use Rattle.pair_history.specs.Entries.{Frame}
use Rattle.pair_history.specs.HistoryState.{HistoryState}
use Rattle.pair_record.specs.declared.event.Event.TheVariants.{GoLive}
use Rattle.pair_record.specs.declared.event.Refusal.{Refusal}
use Rattle.pair_record.specs.declared.event.Refusal.TheVariants.{Stopped, Exhausted}
use Rattle.pair_record.specs.Kept.{brought_refusals}
use Rattle.pair_record.specs.Modes.{mode_refusal}
use Rattle.pair_record.specs.Protocol.{Row}
use Rattle.growing_history.specs.Steps.{WentLive, step, Begins, steps_by}
use Rattle.growing_history.specs.LogState.{state_at}
use Rattle.growing_history.specs.Views.{Member}
use Rattle.pair_book.specs.declared.failures.Ack.{Ack}
use Rattle.pair_book.specs.Books.{BookState}
use Rattle.pair_book.specs.Calls.{is_word_full}
use Rattle.pair_book.specs.Failures.{first_of}
use Rattle.pair_book.specs.Settled.{settled_runner, Runs}
use Rattle.pair_book.specs.Standing.{Stands}

-- It makes one step, under no member's number, which gives the new runner the next number of a seat. The backup's seat has then seen the
-- whole list, what it had seen begins what was there before, and its own steps are those before.
pub record GoesLive (old new : BookState) (seat seat' : Member) : Type 0 where
  pub steps : new.steps ≡ old.steps ++ step 0 (WentLive (old.enrolled + 1)) ∷ []
  pub enrolled : new.enrolled ≡ old.enrolled + 1
  pub sees : seat' ≡ record { number = seat.number; steps = new.steps }
  pub saw : Begins seat.steps old.steps
  pub own : steps_by seat.number new.steps ≡ steps_by seat.number seat.steps

-- whether the seat of that number is the live backup's
abbrev pub is_backup : HistoryState → BookState → ℕ → Bool
is_backup start b number = number == (state_at start b.steps).backup

-- why it is refused, where it brings these frames, the first of which has that number
abbrev pub go_live_rows : HistoryState → BookState → ℕ → ℕ → List (List Frame) → List Row
go_live_rows start b number first kept =
    (not (is_backup start b number), Stopped)
    ∷ (brought_refusals b.protocol b.ports first kept ++ (is_word_full b, Exhausted) ∷ [])

abbrev pub go_live_why : HistoryState → BookState → ℕ → ℕ → List (List Frame) → Option Refusal
go_live_why start b number first kept = first_of (mode_refusal b.protocol.mode GoLive) (go_live_rows start b number first kept)

-- A backup that stands, which hands over these frames, hands over its image. Something was committed to it, and unless a commit is marked
-- it is the guest of the history that the backup had seen. The runner of that seat begins with it.
abbrev pub BeginsWithImage : HistoryState → Member → Member → ℕ → List (List Frame) → Type 0
BeginsWithImage start seat runner first kept =
    (image : Guest) (last : Option Ack) (sent : ℕ) → Stands start seat image last sent first kept
    → IsSome last
    × ((state_at start seat.steps).marked ≡ 0 → image ≡ (state_at start seat.steps).history.guest)
    × Runs start runner (settled_runner image [])
