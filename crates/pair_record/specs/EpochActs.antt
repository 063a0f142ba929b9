-- What happens to epochs of a guest that runs elsewhere: the epoch that runs is then the arrivals of the frames that were handed out to it,
-- and so many of them, the first first, and the steps after them make an epoch. `X_done` is what a call leaves, with its reply if it has
-- one; the events of a pair whose guest is at hand stand on the same spellings.
use Rattle.std.specs.Prelude.{ℕ, ◌+◌, ◌++◌, false, List, [], ◌∷◌, length}
use Rattle.frame_ports.specs.Addresses.{targets_of}
use Rattle.pair_history.specs.Entries.{Frame}
use Rattle.pair_history.specs.HistoryState.{HistoryState, at, sent_along}
use Rattle.pair_record.specs.declared.event.Refusal.TheVariants.{Exhausted}
use Rattle.pair_record.specs.ClientActs.{arrival_done}
use Rattle.pair_record.specs.FailureActs.{landed_after, failure_done}
pub use Rattle.pair_history.specs.Epochs.{is_arrival, to_come, up_to, behind, guest_epoch}
use Rattle.pair_history.specs.Journal.{joined}
use Rattle.pair_record.specs.GuestActs.{seal_done}
use Rattle.pair_record.specs.Tables.{Record, Outcome, Row, exhausts, frames_run_out}

-- the frames that the guest sent along it, behind what is sealed
abbrev pub epoch_sent : HistoryState → Record → ℕ → ℕ → List Frame
epoch_sent start r arrivals steps =
    sent_along (at start (r.journal.history ++ joined r.journal.sealed)) (guest_epoch arrivals steps r.journal.running)

-- A frame is handed out, whatever the mode: from then on it runs.
abbrev pub hand_out_done : Record → ℕ → Outcome
hand_out_done r n = arrival_done false r n

-- The guest's epoch is sealed, and the other frames that were handed out run on.
abbrev pub seal_epoch_done : ℕ → ℕ → List Frame → Record → Outcome
seal_epoch_done arrivals steps frames r =
    seal_done (guest_epoch arrivals steps r.journal.running) (behind arrivals r.journal.running) frames r

-- what is refused where it goes to the history, and these frames, which the guest sent along it, land
abbrev pub enter_epoch_refusals : ℕ → List (List Frame) → List Frame → Record → List Row
enter_epoch_refusals steps boxes frames r =
    (exhausts r (steps + length (targets_of (length boxes) frames)), Exhausted) ∷ (frames_run_out r, Exhausted) ∷ []

-- Where nothing is sealed or pending, it goes to the history, and these frames, which the guest sent along it, land after it.
abbrev pub enter_epoch_done : ℕ → ℕ → List (List Frame) → List Frame → Record → Record
enter_epoch_done arrivals steps boxes frames r = record r {
  journal = landed_after (guest_epoch arrivals steps r.journal.running) (behind arrivals r.journal.running) boxes
      (targets_of (length boxes) frames) r.journal;
  next_frame = r.next_frame + length frames;
}

-- The backup fails while the guest is in an epoch, which goes on: what was handed out runs on.
abbrev pub fail_within_done : List (List Frame) → Record → Outcome
fail_within_done boxes r = failure_done [] r.journal.running boxes [] r
