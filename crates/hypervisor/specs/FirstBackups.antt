-- The first backup of a pair, where it commits nothing but what was sealed: in the first generation no commit is marked.
use Rattle.std.specs.Prelude.{◌≡◌, ◌≢◌, ℕ, ◌==◌, ◌&&◌, nat_le, Bool, true, false, List, length, Option, None, Some, Result, Ok, Err}
use Rattle.checkpoint_stream.specs.ReadBack.{ReadsBack}
use Rattle.checkpoint_stream.specs.Readings.{Reading, begun, fed, taken, is_whole, failure_at}
use Rattle.checkpoint_stream.specs.Sound.{change_in}
use Rattle.checkpoint_stream.specs.Text.{text}
use Rattle.checkpoint_stream.specs.declared.errors.StreamError.{StreamError}
use Rattle.checkpoint_stream.specs.declared.errors.StreamError.TheVariants.{Malformed, NoMemory}
use Rattle.epoch_snapshot.specs.Checkpoints.{Change}
use Rattle.guest_rules.specs.declared.shapes.Shape.{Shape}
use Rattle.growing_history.specs.FirstGeneration.{AreUnmarked}
use Rattle.growing_history.specs.LogState.{first_backup, state_at}
use Rattle.growing_history.specs.Steps.{Step, Begins}
use Rattle.pair_book.specs.Commits.{WasRead}
use Rattle.pair_book.specs.Packets.{PacketState}
use Rattle.pair_book.specs.Texts.{WasSealed}
use Rattle.pair_history.specs.HistoryState.{HistoryState}
use Rattle.hypervisor.specs.Backups.{BackupState}
use Rattle.hypervisor.specs.Clients.{ClientState}
use Rattle.hypervisor.specs.Looking.{HasFound, SeeAll}
use Rattle.hypervisor.specs.Seats.{Looks}
use Rattle.hypervisor.specs.declared.looking.Found.{Found}

-- the packet of a checkpoint's text
abbrev pub packet_of : Change → PacketState
packet_of c = record { generation = c.generation; number = c.number; text = text c }

-- what was read whole, if anything was, was sealed among these steps: under its generation and number, with its text
abbrev pub IsSealed : List Step → Option Change → Type 0
IsSealed steps None = Unit {0}
IsSealed steps (Some c) = WasSealed steps (packet_of c)

-- A packet that was sealed, and the steps of which its badge tells.
pub record SealedState : Type 0 where
  pub packet : PacketState
  pub seen : List Step

abbrev pub sealed_state : PacketState → List Step → SealedState
sealed_state packet seen = record { packet = packet; seen = seen }

-- It has the first backup's seat, and no commit of the first generation is marked in what that has seen; and what it commits next was sealed.
pub record IsFirstBackup (start : HistoryState) (b : BackupState) : Type 0 where
  pub number : b.seat.number ≡ first_backup
  pub unmarked : AreUnmarked start b.seat.steps
  pub sealed : IsSealed b.seat.steps b.read

-- A backup was told what another had seen: its seat has then seen that too, and all else is as before.
pub record Hears (start : HistoryState) (badge : List Step) (old new : BackupState) : Type 0 where
  pub is : new ≡ record old { seat = new.seat }
  pub number : new.seat.number ≡ old.seat.number
  pub looks : Looks start old.seat.number old.seat.steps new.seat.steps
  pub told : Begins badge new.seat.steps

-- It has seen all of these steps, and no others, and all else is as before.
pub record HasSeen (start : HistoryState) (all : List Step) (old new : BackupState) : Type 0 where
  pub is : new ≡ record old { seat = record { number = old.seat.number; steps = all } }
  pub looks : Looks start old.seat.number old.seat.steps all

-- WHAT A PACKET'S TEXT IS to a reader of that shape, which begins with it

abbrev pub text_read : Shape → PacketState → Reading
text_read shape p = fed (begun shape 0) p.text

-- so many bytes are all of the text, and that checkpoint has the packet's generation and number
abbrev pub is_all_of : ℕ → Change → PacketState → Bool
is_all_of count c p = nat_le (length p.text) count && (c.generation == p.generation && c.number == p.number)

-- it is a whole checkpoint, to its last byte, of the packet's generation and number
abbrev pub is_text_for : Shape → PacketState → Bool
is_text_for shape p =
    is_whole (text_read shape p).place && is_all_of (taken (begun shape 0) p.text) (change_in (text_read shape p)) p

-- The text is that of a checkpoint of this shape, and of the packet's generation and number.
pub record IsOfShape (shape : Shape) (p : PacketState) : Type 0 where
  pub change : Change
  pub reads_back : ReadsBack change p.text
  pub of_shape : change.shape ≡ shape
  pub generation : change.generation ≡ p.generation
  pub number : change.number ≡ p.number

-- This checkpoint was read of the packet's text, which is of that shape.
pub record IsReadOf (shape : Shape) (p : PacketState) (c : Change) : Type 0 where
  pub of_shape : c.shape ≡ shape
  pub was_read : WasRead c
  pub packet : packet_of c ≡ p

-- The checkpoint that was read whole is now that of this packet, and all else is as before.
pub record ReadsPacket (p : PacketState) (old new : BackupState) : Type 0 where
  pub change : Change
  pub is : new ≡ record old { read = Some change }
  pub packet : packet_of change ≡ p

-- What is read of a packet: its checkpoint, where its text is one; a text that breaks a rule is malformed, at the unit that does; and any may
-- be refused memory.
abbrev pub ReadsWhole : Shape → PacketState → Result (Option Change) StreamError → Type 0
ReadsWhole shape p (Ok (Some c)) =
    (is_text_for shape p ≡ true) × (failure_at (text_read shape p).place ≡ None) × IsReadOf shape p c
ReadsWhole shape p (Ok None) = (is_text_for shape p ≡ false) × (failure_at (text_read shape p).place ≡ None)
ReadsWhole shape p (Err (Malformed offset)) = failure_at (text_read shape p).place ≡ Some offset
ReadsWhole shape p (Err (NoMemory _)) = Unit {0}

-- What is answered to a packet: whether its text is a checkpoint, as above.
abbrev pub AnswersPacket : Shape → PacketState → Result Bool StreamError → Type 0
AnswersPacket shape p (Ok is_read) = (is_text_for shape p ≡ is_read) × (failure_at (text_read shape p).place ≡ None)
AnswersPacket shape p (Err (Malformed offset)) = failure_at (text_read shape p).place ≡ Some offset
AnswersPacket shape p (Err (NoMemory _)) = Unit {0}

-- What that leaves: the checkpoint in the place of what was read before, or none there; and nothing after an error.
abbrev pub AfterPacket : PacketState → Result Bool StreamError → BackupState → BackupState → Type 0
AfterPacket p (Ok true) old new = ReadsPacket p old new
AfterPacket p (Ok false) old new = new ≡ record old { read = None }
AfterPacket p (Err why) old new = new ≡ old

-- Unless it was refused memory, the checkpoint is read.
abbrev pub IsReadOrNoMemory : Result Bool StreamError → Type 0
IsReadOrNoMemory (Ok is_read) = is_read ≡ true
IsReadOrNoMemory (Err (Malformed offset)) = ⊥
IsReadOrNoMemory (Err (NoMemory _)) = Unit {0}

-- The backup with the seat that it has then: what it is told at the start of a call comes before all else.
abbrev pub with_seat : BackupState → BackupState → BackupState
with_seat old new = record old { seat = new.seat }

-- CLIENTS AND THE FIRST BACKUP HAVE LOOKED: all of them have seen one list of steps, which is all that were made, and this was found.
pub record HaveLookedBeside (start : HistoryState) (found : Found) (old new : List ClientState) (backup backup' : BackupState) :
    Type 0 where
  pub all : List Step
  pub has : HasFound start all found
  pub see : SeeAll start all old new
  pub seen : HasSeen start all backup backup'

-- the pair in its first generation: no commit is marked
pub record FindFirstGeneration (start : HistoryState) (found : Found) (old new : List ClientState) (backup backup' : BackupState) :
    Type 0 where
  pub looked : HaveLookedBeside start found old new backup backup'
  pub first : found.generation ≡ 1
  pub unmarked : (state_at start looked.all).marked ≡ 0

-- the pair in a later generation than its first, which has this number
pub record FindLaterGeneration (start : HistoryState) (generation : ℕ) (old new : List ClientState) (backup backup' : BackupState) :
    Type 0 where
  pub found : Found
  pub looked : HaveLookedBeside start found old new backup backup'
  pub number : found.generation ≡ generation
  pub later : generation ≢ 1
