-- What a backup's commits do, and which refusals they may answer.
use Rattle.std.specs.Prelude.{◌≡◌, ℕ, Bool, true, false, not, ◌&&◌, nat_lt, if◌then◌else◌, List, [], ◌∷◌, ◌⊎◌, Option, None, Some, Ok}
use Rattle.std.specs.List.{Contains}
use Rattle.memory_wanted.specs.Wanted.{wanted}
use Rattle.backup_image.specs.Images.{ImageState, applied, stage_answer}
use Rattle.backup_image.specs.Kept.{sent_with}
use Rattle.backup_image.specs.Limits.{number_limit}
use Rattle.backup_image.specs.declared.standing.Staged.TheVariants.{New, Again}
use Rattle.epoch_snapshot.specs.Checkpoints.{Change, is_old_delta}
use Rattle.growing_history.specs.Views.{Member}
use Rattle.pair_history.specs.HistoryState.{HistoryState}
use Rattle.pair_record.specs.declared.event.Refusal.{Refusal}
use Rattle.pair_record.specs.declared.event.Refusal.TheVariants.{Stopped, Stale, Gap, NoMemory, Exhausted, OldVersion}
use Rattle.pair_book.specs.declared.failures.Ack.{Ack}
use Rattle.pair_book.specs.Books.{BookState}
use Rattle.pair_book.specs.Commits.{commit_of, is_earlier, commit_why, Acknowledges}
use Rattle.hypervisor.specs.Backups.{BackupState, ImageStands, last_of}
use Rattle.hypervisor.specs.Refusals.{MayRefuseUnless}
use Rattle.hypervisor.specs.Seats.{MakesStep, Looks}

-- The next one, by what the image stands at: it is acknowledged; the image is the checkpoint read over the image before, and keeps its
-- frames; what was read is given up; and the seat has made the step that names the text that was read.
pub record CommitsNext (start : HistoryState) (c : Change) (ack : Ack) (old new : BackupState) : Type 0 where
  pub acknowledged : Acknowledges false c ack
  pub next : stage_answer old.image c ≡ Ok New
  pub is : new ≡ record old { image = applied old.image (Some c); read = None; seat = new.seat }
  pub number : new.seat.number ≡ old.seat.number
  pub step : MakesStep start old.seat.number (commit_of c) old.seat.steps new.seat.steps

-- An earlier one, by what the image stands at, which is the last one committed and is acknowledged: what was read is given up, the seat
-- has looked, and all else is as before.
pub record CommitsAgain (start : HistoryState) (c : Change) (ack : Ack) (old new : BackupState) : Type 0 where
  pub acknowledged : Acknowledges true c ack
  pub last : last_of old.image ≡ Some ack
  pub again : stage_answer old.image c ≡ Ok Again
  pub is : new ≡ record old { read = None; seat = new.seat }
  pub number : new.seat.number ≡ old.seat.number
  pub looks : Looks start old.seat.number old.seat.steps new.seat.steps

abbrev pub Commits : HistoryState → Change → Ack → BackupState → BackupState → Type 0
Commits start c ack old new = CommitsNext start c ack old new ⊎ CommitsAgain start c ack old new

-- AT THE BOOK, whether it was the next one

pub record CommitsAtBook (start : HistoryState) (c : Change) (ack : Ack) (image : ImageState) (seat seat' : Member) : Type 0 where
  pub acknowledged : Acknowledges false c ack
  pub number : seat'.number ≡ seat.number
  pub step : MakesStep start seat.number (commit_of c) seat.steps seat'.steps
  -- the image can take it in, and the backup stands once it has
  pub new : stage_answer image c ≡ Ok New
  pub stands : ImageStands start seat' (applied image (Some c))

pub record AgainAtBook (start : HistoryState) (c : Change) (ack : Ack) (image : ImageState) (seat seat' : Member) : Type 0 where
  pub acknowledged : Acknowledges true c ack
  -- the image stands at the last one committed, and the backup stands on
  pub last : last_of image ≡ Some ack
  pub again : stage_answer image c ≡ Ok Again
  pub number : seat'.number ≡ seat.number
  pub looks : Looks start seat.number seat.steps seat'.steps
  pub stands : ImageStands start seat' image

abbrev pub AtBook : Bool → HistoryState → Change → Ack → ImageState → Member → Member → Type 0
AtBook true start c ack image seat seat' = CommitsAtBook start c ack image seat seat'
AtBook false start c ack image seat seat' = AgainAtBook start c ack image seat seat'

-- the image once it has taken in what was committed: the next one, or none
abbrev pub image_after : Bool → ImageState → Option Change → ImageState
image_after true i read = applied i read
image_after false i read = i

-- why it is refused there: as the book says; and then, where it is the next one, if the image has no numbers for its frames

abbrev pub is_unnumbered : BookState → ImageState → Change → Bool
is_unnumbered b i c = not (is_earlier b c) && not (nat_lt (sent_with c i.sent) number_limit)

abbrev pub or_unnumbered : Option Refusal → Bool → Option Refusal
or_unnumbered (Some why) unnumbered = Some why
or_unnumbered None unnumbered = if unnumbered then Some Exhausted else None

abbrev pub why_not : HistoryState → BookState → ℕ → ImageState → Option Change → Option Refusal
why_not start b number i (Some c) = or_unnumbered (commit_why start b number (Some c)) (is_unnumbered b i c)
why_not start b number i None = commit_why start b number None

-- WHICH REFUSALS it may answer: first what is known of what was read

abbrev pub commit_refusals : List Refusal
commit_refusals = Stopped ∷ Stale ∷ Gap ∷ NoMemory wanted ∷ Exhausted ∷ []

abbrev pub MayRefuseCommit : Option Change → Refusal → Type 0
MayRefuseCommit (Some c) why = MayRefuseUnless (is_old_delta c) OldVersion commit_refusals why
MayRefuseCommit None why = Contains (Stopped ∷ Stale ∷ []) why

-- whether what was read is given up then: it can't be committed any more
abbrev pub gives_up : Refusal → Bool
gives_up OldVersion = true
gives_up Stale = true
gives_up Gap = true
gives_up other = false

abbrev pub read_after_refusal : Bool → Option Change → Option Change
read_after_refusal true read = None
read_after_refusal false read = read

-- all else is as before
abbrev pub AfterRefusedCommit : Refusal → BackupState → BackupState → Type 0
AfterRefusedCommit why old new = new ≡ record old { read = read_after_refusal (gives_up why) old.read }
