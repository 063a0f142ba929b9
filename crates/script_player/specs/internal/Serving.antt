-- A session under way.
use Rattle.std.specs.Prelude.{◌≡◌, ℕ, ◌≤◌, ◌<◌, Bool, true, false, List, ◌∷◌, ◌++◌, length, take, Result, Ok, Err}
use Rattle.std.specs.Io.KnownBytes.{Appends}
use Rattle.script_player.specs.declared.session.Fate.{Fate}
use Rattle.script_player.specs.declared.session.Fate.TheVariants as fates
use Rattle.script_player.specs.declared.session.OpenLine.{OpenLine}
use Rattle.script_player.specs.Limits.{most_line_bytes}
use Rattle.script_player.specs.Session.{Replies}
use Rattle.script_player.specs.SessionLines.{lines_behind, lines_with}
use Rattle.script_player.specs.Streams.{Writing, WritesFront, IsPut}

-- These are the bytes of a line, or what became of them.
abbrev pub IsKept : List ℕ → List ℕ → Fate → Type 0
IsKept text bytes fates.Kept = (bytes ≡ text) × (length text ≤ most_line_bytes)
IsKept text bytes fates.TooLong = most_line_bytes < length text
IsKept text bytes (fates.NoMemory _) = 0 < length text

-- So much of a line has come. Its first bytes are kept whatever becomes of the others.
pub record Holds (line : OpenLine) (text : List ℕ) : Type 0 where
  pub kept : IsKept text line.bytes.items line.fate
  pub first : line.first.items ≡ take 33 text

-- A line that is open, of which this came, goes on with the first of these bytes, or ends with them; the others are left.
pub record IsTaken (follow : List ℕ → ℕ) (old : OpenLine) (text bytes left : List ℕ) (has_ended : Bool) (new : OpenLine) : Type 0 where
  pub line : List ℕ
  pub held : Holds new line
  pub ends : has_ended ≡ true → (more : List ℕ)
      → lines_behind follow text old.due (bytes ++ more) ≡ line ∷ lines_with follow (left ++ more)
  pub goes_on : has_ended ≡ false → (more : List ℕ)
      → lines_behind follow text old.due (bytes ++ more) ≡ lines_behind follow line new.due (left ++ more)

-- A player answers the line that has these bytes, or this fate, and the answer is printed, if no write failed.
abbrev pub IsReplyTo : {S T E : Type 0} → (S → List ℕ → List ℕ → S → Type 0) → List ℕ → Fate → S → S → Writing → Writing → Result T E
    → Type 0
IsReplyTo Answers bytes fate old new out out' result =
    (printed : List ℕ) × IsPut out out' result printed
    × ((text : List ℕ) → IsKept text bytes fate → Answers old text printed new)

-- the same of an open line
abbrev pub IsAnswerTo : {S T E : Type 0} → (S → List ℕ → List ℕ → S → Type 0) → OpenLine → S → S → Writing → Writing → Result T E → Type 0
IsAnswerTo Answers line old new out out' result = IsReplyTo Answers line.bytes.items line.fate old new out out' result

-- These bytes have come, this was printed, and player and line are so: each line was answered that has come whole.
pub record HasAnswered {S : Type 0} (follow : List ℕ → ℕ) (Answers : S → List ℕ → List ℕ → S → Type 0) (first : S)
    (given printed : List ℕ) (player : S) (line : OpenLine) : Type 0 where
  pub lines : List (List ℕ)
  pub begun : List ℕ
  pub split : (more : List ℕ) → lines_with follow (given ++ more) ≡ lines ++ lines_behind follow begun line.due more
  pub replies : Replies Answers first lines printed player
  pub held : Holds line begun

-- Of these bytes the first lines print this, and a write failed before all of it was written.
pub record IsCutShort {S : Type 0} (follow : List ℕ → ℕ) (Answers : S → List ℕ → List ℕ → S → Type 0) (first : S)
    (given printed : List ℕ) (out out' : Writing) : Type 0 where
  pub lines : List (List ℕ)
  pub rest : List (List ℕ)
  pub text : List ℕ
  pub last : S
  pub split : lines_with follow given ≡ lines ++ rest
  pub replies : Replies Answers first lines (printed ++ text) last
  pub front : WritesFront out out' text

-- More bytes came.
abbrev pub IsFed : {S E : Type 0} → (List ℕ → ℕ) → (S → List ℕ → List ℕ → S → Type 0) → S → OpenLine → List ℕ → S → OpenLine
    → Writing → Writing → Result Unit E → Type 0
IsFed {S} follow Answers old line bytes new line' out out' (Ok done) =
    (first : S) (given printed : List ℕ) → HasAnswered follow Answers first given printed old line
    → (text : List ℕ) × Appends out.bytes out'.bytes text × HasAnswered follow Answers first (given ++ bytes) (printed ++ text) new line'
IsFed {S} follow Answers old line bytes new line' out out' (Err e) =
    (first : S) (given printed : List ℕ) → HasAnswered follow Answers first given printed old line
    → IsCutShort follow Answers first (given ++ bytes) printed out out'

-- the exit status
abbrev pub status_of : {T E : Type 0} → Result T E → ℕ
status_of (Ok done) = 0
status_of (Err e) = 1
