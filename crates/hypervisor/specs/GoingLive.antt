-- A backup goes live: it becomes the runner of its image's guest.
use Rattle.std.specs.Prelude.{◌≡◌, List, [], ◌∷◌, IsSome}
use Rattle.memory_wanted.specs.Wanted.{wanted}
use Rattle.backup_image.specs.Images.{ImageState, settled_machine}
use Rattle.growing_history.specs.LogState.{state_at}
use Rattle.growing_history.specs.Steps.{WentLive, Begins}
use Rattle.growing_history.specs.Views.{Member}
use Rattle.pair_book.specs.Settled.{settled_runner, Runs}
use Rattle.pair_history.specs.HistoryState.{HistoryState}
use Rattle.pair_record.specs.declared.event.Refusal.{Refusal}
use Rattle.pair_record.specs.declared.event.Refusal.TheVariants.{Stopped, NotPaired, AlreadyPaired, NoMemory, Exhausted}
use Rattle.hypervisor.specs.Backups.{BackupState}
use Rattle.hypervisor.specs.Runners.{RunnerState, new_runner}
use Rattle.hypervisor.specs.Seats.{SeesLast}

-- The runner's machine is the image's guest, just settled, and it has run nothing yet; what was staged or read is gone. Its seat has seen a
-- legal list, which begins with what the backup had seen and ends with the step that made it live. Unless a commit is marked, that guest,
-- with its memory and its disk, is the guest of the history that the backup had seen, and of the history now.
pub record BecomesLive (start : HistoryState) (b : BackupState) (r : RunnerState) : Type 0 where
  pub is : r ≡ new_runner (settled_machine b.image.shape b.image.guest) r.seat
  pub step : SeesLast start (WentLive r.seat.number) r.seat.steps
  pub saw : Begins b.seat.steps r.seat.steps
  pub seen : (state_at start b.seat.steps).marked ≡ 0 → r.machine.guest ≡ (state_at start b.seat.steps).history.guest
  pub now : (state_at start r.seat.steps).marked ≡ 0 → r.machine.guest ≡ (state_at start r.seat.steps).history.guest

-- AT THE BOOK: the seat of the runner that begins with this image, which isn't empty
pub record GoesLiveWith (start : HistoryState) (i : ImageState) (seat runner : Member) : Type 0 where
  pub some : IsSome i.stands_at
  pub step : SeesLast start (WentLive runner.number) runner.steps
  pub saw : Begins seat.steps runner.steps
  pub seen : (state_at start seat.steps).marked ≡ 0 → i.guest ≡ (state_at start seat.steps).history.guest
  pub now : (state_at start runner.steps).marked ≡ 0 → i.guest ≡ (state_at start runner.steps).history.guest
  pub runs : Runs start runner (settled_runner i.guest [])

abbrev pub live_refusals : List Refusal
live_refusals = NotPaired ∷ AlreadyPaired ∷ Stopped ∷ Exhausted ∷ NoMemory wanted ∷ []
