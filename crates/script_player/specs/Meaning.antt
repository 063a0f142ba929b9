-- What a script means: what each of its lines prints, and how it ends (README, "Run it"). That memory was wanted prints `no_memory`, which
-- is the writer's (`Sink` of streams.rt): who has no want of memory can't print it.
use Rattle.std.specs.Prelude.{◌≡◌, ℕ, ◌+◌, ◌==◌, ◌⊎◌, Bool, true, false, List, [], ◌∷◌, ◌++◌, Some, None, codes, decimal}
use Rattle.std.specs.List.{slice_split}
use Rattle.pair_record.specs.declared.event.Event.{Event}
use Rattle.pair_record.specs.declared.event.Event.TheVariants as events
use Rattle.pair_record.specs.declared.event.Reply.{Reply}
use Rattle.pair_core.specs.Pair.{Pair, IsConsistent}
use Rattle.pair_core.specs.Replication.{Does, KeepsBackup}
use Rattle.pair_core.specs.Runs.{StepsAnswer}
use Rattle.pair_core.specs.Service.{Serves, ServesSteps, moment}
use Rattle.pair_core.specs.Lines.{start_protocol}
use Rattle.pair_core.specs.Start.{shown}
use Rattle.script_player.specs.declared.script.Command.TheVariants as commands
use Rattle.script_player.specs.Boot.{BootLine, IsBoot, booted_state}
use Rattle.script_player.specs.Command.{IsCommand}
use Rattle.script_player.specs.Delivery.{IsDelivery}
use Rattle.script_player.specs.Lines.{Line, order, delivery}
use Rattle.script_player.specs.Streams.{Writing, Writes, WritesFront}
use Rattle.script_player.specs.Printed.{line, named_sector, told_line, sector_line, show_line}

-- ---- lines

-- the lines of a script stand between its newlines
abbrev pub lines_of : List ℕ → List (List ℕ)
lines_of source = slice_split (λ byte. byte == 10) source

-- an empty line, and one that begins with #, prints nothing
abbrev pub is_silent : List ℕ → Bool
is_silent [] = true
is_silent (byte ∷ bytes) = byte == 35

-- how a line after the boot line is spelled
abbrev pub IsLine : List ℕ → Line → Type 0
IsLine text (order command) = IsCommand text command
IsLine text (delivery client bytes) = IsDelivery text client bytes

-- ---- what a line does

-- the event that a line asks for; the lines `step`, `sector` and `show` ask for none
abbrev pub AsksFor : Line → Event → Type 0
AsksFor (order (commands.Asks asked)) event = event ≡ asked
AsksFor (delivery client bytes) (events.Deliver to lent) = (to ≡ client) × (lent.now ≡ bytes)
AsksFor line event = ⊥

-- The pair old answers the event as the pair protocol says and becomes new, its image as that event makes it. To its clients the event is
-- one of a guest that never fails. The reply is printed.
pub record Happens (no_memory : List ℕ) (old : Pair) (event : Event) (printed : List ℕ) (new : Pair) : Type 0 where
  pub reply : Reply
  pub does : Does old event reply new
  pub serves : Serves old.start (moment old) event reply (moment new)
  pub is_printed : printed ≡ told_line no_memory reply

-- The guest makes so many steps, or as many as it can before a refusal, each of which is an event to the clients, and the image stays. The
-- last reply is printed.
pub record Steps (no_memory : List ℕ) (old : Pair) (count : ℕ) (printed : List ℕ) (new : Pair) : Type 0 where
  pub reply : Reply
  pub outcome : StepsAnswer old.start old.protocol count reply new.protocol
  pub start : new.start ≡ old.start
  pub backup : KeepsBackup old.nodes new.nodes
  pub consistent : IsConsistent new
  pub serves : ServesSteps old.start (moment old) count reply (moment new)
  pub is_printed : printed ≡ told_line no_memory reply

-- A line is answered so.
abbrev pub IsAnswered : List ℕ → Pair → Line → List ℕ → Pair → Type 0
IsAnswered no_memory old (order (commands.Steps count)) printed new = Steps no_memory old count printed new
IsAnswered no_memory old (order (commands.Sector sector)) printed new =
    (bytes : List ℕ) × (named_sector old sector ≡ Some bytes) × (printed ≡ sector_line sector bytes) × (new ≡ old)
IsAnswered no_memory old (order commands.Show) printed new = (printed ≡ show_line (shown old)) × (new ≡ old)
IsAnswered no_memory old line printed new = (event : Event) × AsksFor line event × Happens no_memory old event printed new

-- The line asks for a sector beyond the disk, which is a bad line.
abbrev pub IsBeyond : Pair → Line → Type 0
IsBeyond w (order (commands.Sector sector)) = named_sector w sector ≡ None
IsBeyond w line = ⊥

-- The pair of a boot line, at its start.
pub record IsReady (line : BootLine) (w : Pair) : Type 0 where
  pub start : w.start ≡ booted_state line
  pub protocol : w.protocol ≡ start_protocol
  pub consistent : IsConsistent w

-- ---- a line of a script

-- before the boot line, and after it
pub data Stage : Type 0 where
  unbooted : Stage
  playing : Pair → Stage

-- A line that prints this, and after which the script goes on.
pub data GoesOn (no_memory : List ℕ) (stage : Stage) (text printed : List ℕ) (next : Stage) : Type 0 where
  -- an empty line, or a comment
  is_silence : is_silent text ≡ true → printed ≡ [] → next ≡ stage → GoesOn no_memory stage text printed next
  -- the boot line
  boots : (line : BootLine) (new : Pair) → stage ≡ unbooted → IsBoot text line → IsReady line new
      → printed ≡ codes "booted\n" → next ≡ playing new → GoesOn no_memory stage text printed next
  -- a line after it
  answers : (line : Line) (old new : Pair) → stage ≡ playing old → IsLine text line → IsAnswered no_memory old line printed new
      → next ≡ playing new → GoesOn no_memory stage text printed next
  -- a delivery whose bytes find no memory, which does nothing
  finds_no_memory : (w : Pair) (client : ℕ) (bytes : List ℕ) → stage ≡ playing w → IsDelivery text client bytes
      → printed ≡ no_memory → next ≡ stage → GoesOn no_memory stage text printed next

-- The line isn't silent, and has no known form, or asks for a sector beyond the disk.
pub data IsBad (stage : Stage) (text : List ℕ) : Type 0 where
  no_boot_line : is_silent text ≡ false → stage ≡ unbooted → ((line : BootLine) → IsBoot text line → ⊥) → IsBad stage text
  no_line : (w : Pair) → is_silent text ≡ false → stage ≡ playing w → ((line : Line) → IsLine text line → ⊥) → IsBad stage text
  beyond : (w : Pair) (line : Line) → is_silent text ≡ false → stage ≡ playing w → IsLine text line → IsBeyond w line → IsBad stage text

-- It is the boot line, and there is no memory for what it asks for.
pub record IsRefused (stage : Stage) (text : List ℕ) : Type 0 where
  pub waits : stage ≡ unbooted
  pub line : BootLine
  pub spelled : IsBoot text line

-- ---- a script

-- how a script ends: with its last line, with a bad line of that number, or with a boot line that is refused
pub data Ending : Type 0 where
  finished : Ending
  bad : ℕ → Ending
  refused : Ending

-- From this stage on these lines, of which the first has this number, print `out` and end so.
pub data Means (no_memory : List ℕ) : Stage → ℕ → List (List ℕ) → List ℕ → Ending → Type 0 where
  ends : (stage : Stage) (number : ℕ) → Means no_memory stage number [] [] finished
  goes_on : (stage next : Stage) (number : ℕ) (text first rest : List ℕ) (texts : List (List ℕ)) (ending : Ending)
      → GoesOn no_memory stage text first next → Means no_memory next (number + 1) texts rest ending
      → Means no_memory stage number (text ∷ texts) (first ++ rest) ending
  ends_badly : (stage : Stage) (number : ℕ) (text : List ℕ) (texts : List (List ℕ)) → IsBad stage text
      → Means no_memory stage number (text ∷ texts) [] (bad number)
  ends_refused : (stage : Stage) (number : ℕ) (text : List ℕ) (texts : List (List ℕ)) → IsRefused stage text
      → Means no_memory stage number (text ∷ texts) no_memory refused

-- ---- the program

-- the exit status
abbrev pub status_of : Ending → ℕ
status_of finished = 0
status_of ending = 1

-- what is printed of a bad line on standard error
abbrev pub bad_line : ℕ → List ℕ
bad_line number = codes "remus: line " ++ decimal number ++ codes ": bad\n"

-- what standard error gets: of a bad line the message, or a beginning of it where that write fails; otherwise nothing
abbrev pub IsTold : Ending → Writing → Writing → Type 0
IsTold (bad number) old new = Writes old new (bad_line number) ⊎ WritesFront old new (bad_line number)
IsTold ending old new = new ≡ old

-- A write to standard output failed, which got a beginning of what the first lines of a script mean.
pub record IsWrittenShort (no_memory source : List ℕ) (out out' : Writing) : Type 0 where
  pub first : List (List ℕ)
  pub rest : List (List ℕ)
  pub text : List ℕ
  pub ending : Ending
  pub lines : lines_of source ≡ first ++ rest
  pub means : Means no_memory unbooted 1 first text ending
  pub front : WritesFront out out' text

-- What standard output and standard error get of a script, and the exit status.
pub data IsPlayed (no_memory source : List ℕ) (out out' err err' : Writing) (status : ℕ) : Type 0 where
  -- it is played, and standard output gets what it means
  whole : (text : List ℕ) (ending : Ending) → Means no_memory unbooted 1 (lines_of source) text ending → Writes out out' text
      → IsTold ending err err' → status ≡ status_of ending → IsPlayed no_memory source out out' err err' status
  -- a write to standard output fails
  cut_short : IsWrittenShort no_memory source out out' → err' ≡ err → status ≡ 1 → IsPlayed no_memory source out out' err err' status
