-- What a session prints: each line is answered as it comes, by whatever plays the lines (docs/LIVE.md, "Its lines and answers").
use Rattle.std.specs.Prelude.{◌≡◌, ℕ, ◌≤◌, ◌<◌, true, false, List, [], ◌∷◌, ◌++◌, length, codes, Result}
use Rattle.std.specs.Io.KnownBytes.{Appends, Consumes, IsAtEnd}
use Rattle.memory_wanted.specs.Wanted.{wanted}
use Rattle.pair_record.specs.declared.event.Refusal.TheVariants.{NoMemory}
use Rattle.script_player.specs.Limits.{most_line_bytes}
use Rattle.script_player.specs.Printed.{refusal_line}
use Rattle.script_player.specs.Streams.{Reading, Writing, Writes, WritesFront, IsPut}

-- what a bad line prints
abbrev pub bad_answer : List ℕ
bad_answer = codes "bad\n"

-- what is printed where memory was wanted
abbrev pub memory_answer : List ℕ
memory_answer = refusal_line (NoMemory wanted)

-- An answer was printed, if no write failed, and it leads to this player.
abbrev pub IsAnswered : {S T E : Type 0} → (List ℕ → S → Type 0) → Writing → Writing → Result T E → S → Type 0
IsAnswered Answers out out' result new = (printed : List ℕ) × IsPut out out' result printed × Answers printed new

-- The answer to one line, and the player after it, where `Plays player line printed next` says how a player answers a line that is kept, and
-- that memory was wanted prints `no_memory`.
pub data IsReply {S : Type 0} (no_memory : List ℕ) (Plays : S → List ℕ → List ℕ → S → Type 0) (player : S) (line printed : List ℕ) (next : S) : Type 0 where
  is_played : length line ≤ most_line_bytes → Plays player line printed next → IsReply no_memory Plays player line printed next
  -- it is too long, and changes nothing
  is_too_long : most_line_bytes < length line → printed ≡ bad_answer → next ≡ player → IsReply no_memory Plays player line printed next
  -- there is no memory to keep it in
  is_not_kept : 0 < length line → printed ≡ no_memory → next ≡ player → IsReply no_memory Plays player line printed next

-- The answers to lines, one after another, each as `Answers` says: from the first player on these lines print this, and lead to the last
-- one.
abbrev pub Replies : {S : Type 0} → (S → List ℕ → List ℕ → S → Type 0) → S → List (List ℕ) → List ℕ → S → Type 0
Replies Answers player [] text last = (text ≡ []) × (last ≡ player)
Replies {S} Answers player (line ∷ lines) text last =
    (first : List ℕ) × (rest : List ℕ) × (next : S)
    × (text ≡ first ++ rest) × Answers player line first next × Replies Answers next lines rest last

-- What a session of a player has read and printed when it ends, and its exit status. What was read by then are the given bytes, of which
-- `lines_of` gives the lines.
pub data IsServed {S : Type 0} (lines_of : List ℕ → List (List ℕ)) (Answers : S → List ℕ → List ℕ → S → Type 0) (player : S)
    (input input' : Reading) (out out' : Writing) (status : ℕ) : Type 0 where
  -- The input ended. Each of its lines was answered, the last one also where it is open.
  ended : (given text : List ℕ) (last : S) → Consumes input.left input'.left given → IsAtEnd input'.left → input'.failed ≡ false
      → Replies Answers player (lines_of given) text last → Writes out out' text → status ≡ 0
      → IsServed lines_of Answers player input input' out out' status
  -- A read failed. Each line that had come whole was answered; an open one, which has begun, was not.
  unread : (given begun text : List ℕ) (lines : List (List ℕ)) (last : S) → Consumes input.left input'.left given
      → input'.failed ≡ true → lines_of given ≡ lines ++ begun ∷ [] → Replies Answers player lines text last
      → Appends out.bytes out'.bytes text → status ≡ 1 → IsServed lines_of Answers player input input' out out' status
  -- A write failed. Standard output got a beginning of the answers to the first lines.
  unwritten : (given text : List ℕ) (lines rest : List (List ℕ)) (last : S) → Consumes input.left input'.left given
      → lines_of given ≡ lines ++ rest → Replies Answers player lines text last → WritesFront out out' text → status ≡ 1
      → IsServed lines_of Answers player input input' out out' status
