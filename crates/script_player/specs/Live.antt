-- What a live session prints: each line is answered as it comes (docs/LIVE.md, "Its lines and answers").
use Rattle.std.specs.Prelude.{◌≡◌, ℕ, ◌≤◌, List, [], ◌∷◌, ◌++◌, length}
use Rattle.script_player.specs.Limits.{most_line_bytes}
use Rattle.script_player.specs.Meaning.{Stage, unbooted, lines_of, GoesOn, IsBad, IsRefused}
use Rattle.script_player.specs.Session.{bad_answer, IsReply, IsServed}
use Rattle.script_player.specs.Streams.{Reading, Writing}

-- How a line is answered that is kept, and the stage after it.
pub data PlaysLine (no_memory : List ℕ) (stage : Stage) (line printed : List ℕ) (next : Stage) : Type 0 where
  -- it prints what it prints in a script that goes on
  plays : GoesOn no_memory stage line printed next → PlaysLine no_memory stage line printed next
  -- it is bad, and changes nothing
  is_bad : IsBad stage line → printed ≡ bad_answer → next ≡ stage → PlaysLine no_memory stage line printed next
  -- it is a boot line that is refused; another may follow
  is_refused : IsRefused stage line → printed ≡ no_memory → next ≡ stage → PlaysLine no_memory stage line printed next

-- how each line of a session is answered
abbrev pub LineAnswers : List ℕ → Stage → List ℕ → List ℕ → Stage → Type 0
LineAnswers no_memory = IsReply no_memory (PlaysLine no_memory)

-- What a live session has read and printed when it ends, and its exit status.
abbrev pub IsLive : List ℕ → Reading → Reading → Writing → Writing → ℕ → Type 0
IsLive no_memory input input' out out' status = IsServed lines_of (LineAnswers no_memory) unbooted input input' out out' status

-- ---- beside a script

-- These lines and what they print, without some bad lines and ones for which there was no memory, and without their answers.
pub data LeavesOut (no_memory : List ℕ) : List (List ℕ) → List ℕ → List (List ℕ) → List ℕ → Type 0 where
  nothing : LeavesOut no_memory [] [] [] []
  keeps : (line first text printed : List ℕ) (lines kept : List (List ℕ)) → LeavesOut no_memory lines text kept printed
      → LeavesOut no_memory (line ∷ lines) (first ++ text) (line ∷ kept) (first ++ printed)
  drops_bad : (line text printed : List ℕ) (lines kept : List (List ℕ)) → LeavesOut no_memory lines text kept printed
      → LeavesOut no_memory (line ∷ lines) (bad_answer ++ text) kept printed
  drops_refused : (line text printed : List ℕ) (lines kept : List (List ℕ)) → LeavesOut no_memory lines text kept printed
      → LeavesOut no_memory (line ∷ lines) (no_memory ++ text) kept printed

-- a line that may be read
abbrev pub IsShort : List ℕ → Type 0
IsShort line = length line ≤ most_line_bytes
