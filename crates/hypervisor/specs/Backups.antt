-- What contracts see of a backup, and what is true of each.
use Rattle.std.specs.Prelude.{◌≡◌, ℕ, ◌<◌, false, List, All, Option, None, Some, option_map}
use Rattle.backup_image.specs.declared.standing.Standing.{Standing}
use Rattle.backup_image.specs.Images.{ImageState}
use Rattle.backup_image.specs.Kept.{Kept, first_kept}
use Rattle.checkpoint_stream.specs.Readings.{Reading, begun, fed, is_whole}
use Rattle.epoch_snapshot.specs.Checkpoints.{Change}
use Rattle.growing_history.specs.LogState.{state_at}
use Rattle.growing_history.specs.Views.{Member}
use Rattle.pair_book.specs.declared.failures.Ack.{Ack}
use Rattle.pair_book.specs.Commits.{WasRead}
use Rattle.pair_book.specs.Made.{IsShape}
use Rattle.pair_book.specs.Standing.{IsLive, Stands}
use Rattle.pair_history.specs.HistoryState.{HistoryState}
use Rattle.failover.specs.Modes.{is_filling}

pub record BackupState : Type 0 where
  -- the image of its last commit
  pub image : ImageState
  -- what was read of the checkpoint that comes next
  pub reading : Reading
  -- the checkpoint that was read whole, and isn't committed or given up
  pub read : Option Change
  -- its seat
  pub seat : Member

abbrev pub backup_state : ImageState → Reading → Option Change → Member → BackupState
backup_state image reading read seat = record { image = image; reading = reading; read = read; seat = seat }

-- one of this image, which has read nothing yet
abbrev pub new_backup : ImageState → Member → BackupState
new_backup image seat = backup_state image (begun image.shape 0) None seat

-- IT STANDS with an image by what its seat has seen (pair_book's Standing): its image's guest, where the image stands, and the frames that
-- it keeps, by the number of the first

abbrev pub ack_of : Standing → Ack
ack_of at = record { generation = at.generation; number = at.number }

abbrev pub last_of : ImageState → Option Ack
last_of i = option_map ack_of i.stands_at

abbrev pub kept_of : ImageState → Kept
kept_of i = record { lists = i.kept; sent = i.sent }

abbrev pub ImageStands : HistoryState → Member → ImageState → Type 0
ImageStands start seat i = Stands start seat i.guest (last_of i) i.sent (first_kept (kept_of i)) i.kept

-- Bytes came since the last checkpoint was read whole, or since the start; what they are read as.
pub record ReadsOn (r : Reading) : Type 0 where
  pub offset : ℕ
  pub came : List ℕ
  pub bytes : All (λ b. b < 256) came
  pub is : r ≡ fed (begun r.shape offset) came

-- Nothing is staged, and no checkpoint stands whole in the reader; all that is read is of the image's shape, which is the pair's; what was
-- read whole is what its own text reads as; and the backup stands.
pub record IsBackup (start : HistoryState) (b : BackupState) : Type 0 where
  pub unstaged : b.image.staged ≡ None
  pub unfinished : is_whole b.reading.place ≡ false
  pub shape : b.reading.shape ≡ b.image.shape
  pub reads_on : ReadsOn b.reading
  pub read_shape : (c : Change) → b.read ≡ Some c → c.shape ≡ b.image.shape
  pub was_read : (c : Change) → b.read ≡ Some c → WasRead c
  pub pair_shape : IsShape start b.image.shape
  pub stands : ImageStands start b.seat b.image

-- Where the backup is the live one's in what it has seen, no commit is marked there and it has been filled, its image's guest is the guest
-- of the history that it has seen.
abbrev pub HasHistorysGuest : HistoryState → BackupState → Type 0
HasHistorysGuest start b =
    IsLive start b.seat → (state_at start b.seat.steps).marked ≡ 0 → is_filling (state_at start b.seat.steps).mode ≡ false
    → b.image.guest ≡ (state_at start b.seat.steps).history.guest
