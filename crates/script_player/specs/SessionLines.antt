-- The lines of a session, which a newline ends, or so many bytes behind it as follow such a line: they are a part of it, whatever they are.
use Rattle.std.specs.Prelude.{ℕ, zero, suc, ◌==◌, nat_lt, List, [], ◌∷◌, ◌++◌, length, if◌then◌else◌}
use Rattle.script_player.specs.Limits.{most_head_bytes}

-- how many bytes follow a line, where `follow` says it of those that are short
abbrev pub due_behind : (List ℕ → ℕ) → List ℕ → ℕ
due_behind follow line = if nat_lt most_head_bytes (length line) then 0 else follow line

-- The lines that end with a byte, and the open one behind it: its bytes so far, and how many are still to follow its newline, 0 before that.
abbrev pub Next : Type 0
Next = List (List ℕ) × List ℕ × ℕ

-- at the newline of a line that so many bytes follow
abbrev pub at_newline : List ℕ → ℕ → Next
at_newline line zero = (line ∷ [], [], 0)
at_newline line (suc due) = ([], line ++ 10 ∷ [], suc due)

-- at a byte that follows its newline, with so many more to come
abbrev pub at_following : List ℕ → ℕ → Next
at_following line zero = (line ∷ [], [], 0)
at_following line (suc due) = ([], line, suc due)

abbrev pub next_at : (List ℕ → ℕ) → List ℕ → ℕ → ℕ → Next
next_at follow line zero byte = if byte == 10 then at_newline line (due_behind follow line) else ([], line ++ byte ∷ [], 0)
next_at follow line (suc due) byte = at_following (line ++ byte ∷ []) due

-- the lines of these bytes, behind an open one; the last of them is open
abbrev pub lines_behind : (List ℕ → ℕ) → List ℕ → ℕ → List ℕ → List (List ℕ)
lines_behind follow line due [] = line ∷ []
lines_behind follow line due (byte ∷ bytes) =
    (next_at follow line due byte).0
    ++ lines_behind follow (next_at follow line due byte).1 (next_at follow line due byte).2 bytes

-- the lines of all that came
abbrev pub lines_with : (List ℕ → ℕ) → List ℕ → List (List ℕ)
lines_with follow given = lines_behind follow [] 0 given
