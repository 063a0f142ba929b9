-- A submit: which entries it adds, what its checkpoint makes, and what the runner is then.
use Rattle.std.specs.Prelude.{◌≡◌, ℕ, ◌<◌, List, [], ◌++◌, length, replicate, false}
use Rattle.guest_rules.specs.Guest.{Guest, State}
use Rattle.pair_history.specs.Entries.{Entry, Frame}
use Rattle.pair_history.specs.HistoryState.{HistoryState, at, sent_along}
use Rattle.growing_history.specs.LogState.{LogState, state_at, sealed_state}
use Rattle.growing_history.specs.SealedTexts.{Makes}
use Rattle.growing_history.specs.Views.{Member}
use Rattle.pair_book.specs.declared.prepared.Prepared.{Prepared}
use Rattle.pair_book.specs.declared.prepared.Prepared.TheVariants as prepared
use Rattle.pair_book.specs.Made.{Reads, carried}
use Rattle.pair_book.specs.Settled.{epoch_of, numbers_of}
use Rattle.pair_book.specs.Submitting.{told_as}
use Rattle.hypervisor.specs.Runners.{RunnerState}
use Rattle.hypervisor.specs.Seats.{MakesStep}

-- The checkpoint, where one was prepared, makes the machine's guest of that one, a full one of any, and carries the frames in the outbox;
-- a full one carries none.
abbrev pub MakesGuest : HistoryState → Guest → State → Prepared → Type 0
MakesGuest start from m prepared.Nothing = Unit {0}
MakesGuest start from m (prepared.Checkpoint c) = Makes (Reads start) c.number c.text (carried c.number m.outbox) from m.guest

-- The entries of the runner's epoch, where it is live: so many arrivals of what was handed out to it, the first first, and so many steps.
-- Unless a commit is marked there, they are a run from the sealed state that ends in the machine's guest, which sent along it what is in
-- the outbox; and the checkpoint makes that guest of the one of the sealed state.
pub record AddsRun (start : HistoryState) (s : LogState) (epoch : List Entry) (r : RunnerState) : Type 0 where
  pub live : r.seat.number ≡ s.runner
  pub is : epoch ≡ epoch_of s.handed r.arrivals r.steps
  pub guest : s.marked ≡ 0 → (at (sealed_state s) epoch).guest ≡ r.machine.guest
  pub sent : s.marked ≡ 0 → sent_along (sealed_state s) epoch ≡ r.machine.outbox
  pub makes : s.marked ≡ 0 → MakesGuest start (sealed_state s).guest r.machine r.what

-- The runner's seat has then seen a legal list, which begins with what it had seen and ends with the step that tells of the epoch: that it
-- was sealed with the checkpoint's text, or that the node ran alone.
pub record Submits (start : HistoryState) (r : RunnerState) (seat : Member) : Type 0 where
  pub epoch : List Entry
  pub step : MakesStep start r.seat.number (told_as r.what epoch) r.seat.steps seat.steps
  pub run : AddsRun start (state_at start (r.seat.steps ++ step.seen.0)) epoch r

-- a machine whose guest goes on, just settled
abbrev pub after_settle : State → State
after_settle m = record m { outbox = []; dirty = []; settled = m.guest.ram; written = replicate (length m.written) false }

-- The next epoch: the machine is settled, nothing of the epoch has run, and nothing stands prepared. The runner holds so many frames more,
-- none where it held some already; in all it holds what is handed out.
pub record BeginsEpoch (start : HistoryState) (count : ℕ) (old new : RunnerState) : Type 0 where
  pub machine : new.machine ≡ after_settle old.machine
  pub next : List (ℕ × Frame)
  pub held : new.held ≡ old.held ++ next
  pub many : length next ≡ count
  pub rest : 0 < length old.held → count ≡ 0
  pub handed : numbers_of new.held ≡ (state_at start new.seat.steps).handed
  pub arrivals : new.arrivals ≡ 0
  pub steps : new.steps ≡ 0
  pub what : new.what ≡ prepared.Nothing
  pub number : new.seat.number ≡ old.seat.number
