-- A new backup.
use Rattle.std.specs.Prelude.{◌≡◌}
use Rattle.backup_image.specs.Images.{empty_image}
use Rattle.growing_history.specs.Steps.{Protected}
use Rattle.pair_book.specs.Made.{IsShape}
use Rattle.pair_history.specs.HistoryState.{HistoryState}
use Rattle.hypervisor.specs.Backups.{BackupState, new_backup}
use Rattle.hypervisor.specs.Seats.{SeesLast}

-- It has an empty image of the pair's shape, and has read nothing; its seat has the number that the step gives it.
pub record IsProtected (start : HistoryState) (b : BackupState) : Type 0 where
  pub is : b ≡ new_backup (empty_image b.image.shape) b.seat
  pub shape : IsShape start b.image.shape
  pub step : SeesLast start (Protected b.seat.number) b.seat.steps
