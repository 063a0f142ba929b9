-- A script that is being played.
use Rattle.std.specs.Prelude.{◌≡◌, ◌⊎◌, ℕ, ◌+◌, List, [], length, Option, Some, None, Result, Ok, Err, Box}
use Rattle.std.specs.Io.KnownBytes.{Appends}
use Rattle.pair_core.specs.Pair.{Pair}
use Rattle.pair_record.specs.declared.event.Refusal.TheVariants.{NoMemory}
use Rattle.pair_record.specs.declared.event.Reply.{Reply}
use Rattle.pair_record.specs.declared.event.Reply.TheVariants.{Refused}
use Rattle.script_player.specs.Printed.{told_line}
use Rattle.script_player.specs.declared.player.Turn.{Turn}
use Rattle.script_player.specs.declared.player.Turn.TheVariants as turns
use Rattle.script_player.specs.declared.sim.Stop.{Stop}
use Rattle.script_player.specs.declared.sim.Stop.TheVariants as stops
use Rattle.script_player.specs.Lines.{Line}
use Rattle.script_player.specs.Meaning.{IsAnswered, IsBeyond, Stage, unbooted, playing, GoesOn, IsBad, IsRefused}
use Rattle.script_player.specs.Meaning.{Ending, finished, bad, refused, Means, lines_of, bad_line, IsWrittenShort}
use Rattle.script_player.specs.Session.{bad_answer}
use Rattle.script_player.specs.Streams.{Writing, Writes, WritesFront}

abbrev pub stage_of : {Z : Type 0} → Option (Box Pair Z) → Stage
stage_of None = unbooted
stage_of (Some world) = playing world.value

-- what a turn prints with this text: the text, or that memory was wanted
abbrev pub printed_by : List ℕ → Turn → List ℕ → List ℕ
printed_by no_memory (turns.NoMemory w) text = no_memory
printed_by no_memory (turns.Refused w) text = no_memory
printed_by no_memory turn text = text

-- the same in a session, where a bad line is answered
abbrev pub live_answer : List ℕ → Turn → List ℕ → List ℕ
live_answer no_memory turns.Bad text = bad_answer
live_answer no_memory turn text = printed_by no_memory turn text

-- A line that was read is answered; or it asks for a sector beyond the disk, and does nothing.
abbrev pub IsDone : List ℕ → Pair → Line → Turn → List ℕ → Pair → Type 0
IsDone no_memory old line turns.Played printed new = IsAnswered no_memory old line printed new
IsDone no_memory old line (turns.NoMemory w) printed new = IsAnswered no_memory old line no_memory new
IsDone no_memory old line turns.Bad printed new = IsBeyond old line × (printed ≡ []) × (new ≡ old)
IsDone no_memory old line turn printed new = ⊥

-- what an event, or steps, so answered, are to a line: the reply is printed into a text, or it is a want of memory that is handed back
abbrev pub Tells : Reply → Turn → List ℕ → Type 0
Tells reply turns.Played text = (no_memory : List ℕ) → text ≡ told_line no_memory reply
Tells reply (turns.NoMemory w) text = reply ≡ Refused (NoMemory w)
Tells reply turn text = ⊥

-- What became of a line, which printed this.
abbrev pub IsStep : List ℕ → Stage → List ℕ → Turn → List ℕ → Stage → Type 0
IsStep no_memory old text turns.Bad printed new = IsBad old text × (printed ≡ []) × (new ≡ old)
IsStep no_memory old text (turns.Refused w) printed new = IsRefused old text × (printed ≡ no_memory) × (new ≡ old)
IsStep no_memory old text turn printed new = GoesOn no_memory old text printed new

-- The script means what was printed, and ends so.
abbrev pub HasMeant : List ℕ → List ℕ → Ending → Writing → Writing → Type 0
HasMeant no_memory source ending out out' = (text : List ℕ) × Means no_memory unbooted 1 (lines_of source) text ending × Appends out.bytes out'.bytes text

-- It was played up to its end, or until something ended it; or a write failed.
abbrev pub IsPlayedTo : List ℕ → List ℕ → Result Unit Stop → Writing → Writing → Type 0
IsPlayedTo no_memory source (Ok done) out out' = HasMeant no_memory source finished out out'
IsPlayedTo no_memory source (Err (stops.Bad number)) out out' = HasMeant no_memory source (bad number) out out'
IsPlayedTo no_memory source (Err stops.Refused) out out' = HasMeant no_memory source refused out out'
IsPlayedTo no_memory source (Err stops.Unwritten) out out' = IsWrittenShort no_memory source out out'

-- why a script ends with a line of this number, if it does
abbrev pub stop_of : Turn → ℕ → Option Stop
stop_of turns.Bad number = Some (stops.Bad number)
stop_of (turns.Refused w) number = Some stops.Refused
stop_of turn number = None

-- what standard error gets at the end of a script, and the exit status
abbrev pub IsEnded : Result Unit Stop → Writing → Writing → ℕ → Type 0
IsEnded (Ok done) old new status = (new ≡ old) × (status ≡ 0)
IsEnded (Err (stops.Bad number)) old new status = (Writes old new (bad_line number) ⊎ WritesFront old new (bad_line number)) × (status ≡ 1)
IsEnded (Err stops.Refused) old new status = (new ≡ old) × (status ≡ 1)
IsEnded (Err stops.Unwritten) old new status = (new ≡ old) × (status ≡ 1)

-- the lines that are left to play, none once the last one was read
abbrev pub lines_left : Option (List ℕ) → List (List ℕ)
lines_left None = []
lines_left (Some text) = lines_of text

-- how many lines that can be at most
abbrev pub most_lines : Option (List ℕ) → ℕ
most_lines None = 0
most_lines (Some text) = length text + 1
