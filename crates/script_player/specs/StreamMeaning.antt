-- What check-stream prints of a file of checkpoints, and its exit status (docs/CHECKPOINT.md, "Checking a file"). That memory was wanted
-- prints `no_memory`, which is the writer's (`Sink` of streams.rt): who has no want of memory can't print it.
use Rattle.std.specs.Prelude.{◌≡◌, ◌≢◌, ℕ, zero, suc, false, List, [], ◌++◌, length, drop, Some}
use Rattle.checkpoint_stream.specs.declared.errors.StreamError.{StreamError}
use Rattle.checkpoint_stream.specs.declared.errors.StreamError.TheVariants.{Malformed, NoMemory}
use Rattle.checkpoint_stream.specs.declared.place.Place.TheVariants.{Whole}
use Rattle.checkpoint_stream.specs.Readings.{Reading, begun, fed, taken, is_closed, failure_at}
use Rattle.checkpoint_stream.specs.Sound.{change_in}
use Rattle.script_player.specs.StreamLines.{checkpoint_line, short_line, malformed_line}
use Rattle.script_player.specs.Streams.{Writing, Writes, WritesFront}

-- how a file ends: with the last byte of a checkpoint, or with no bytes at all; inside a checkpoint; or where it can't be read on
pub data FileEnd : Type 0 where
  complete : FileEnd
  inside : FileEnd
  stopped : StreamError → FileEnd

-- the next checkpoint begins where this one ended
abbrev pub next_after : Reading → Reading
next_after r = begun r.shape r.offset

-- No whole checkpoint is left: these bytes, which are read from here on, are the end of the file. Memory may be refused wherever it is.
abbrev pub EndsFile : Reading → List ℕ → FileEnd → Type 0
EndsFile r bytes complete = bytes ≡ []
EndsFile r bytes inside = (bytes ≢ []) × (is_closed (fed r bytes).place ≡ false)
EndsFile r bytes (stopped (Malformed offset)) = failure_at (fed r bytes).place ≡ Some offset
EndsFile r bytes (stopped (NoMemory _)) = Unit {0}

-- what the end of a file of so many bytes prints
abbrev pub end_line : List ℕ → ℕ → FileEnd → List ℕ
end_line no_memory len complete = []
end_line no_memory len inside = short_line len
end_line no_memory len (stopped (Malformed offset)) = malformed_line offset
end_line no_memory len (stopped (NoMemory _)) = no_memory

-- Of a file of len bytes these are left, read from here on: so many whole checkpoints, each of which prints its line, and then the end.
abbrev pub Lists : List ℕ → ℕ → ℕ → Reading → List ℕ → List ℕ → FileEnd → Type 0
Lists no_memory len zero r bytes out end = EndsFile r bytes end × (out ≡ end_line no_memory len end)
Lists no_memory len (suc count) r bytes out end =
    ((fed r bytes).place ≡ Whole)
    × (rest : List ℕ) × (out ≡ checkpoint_line (change_in (fed r bytes)) ++ rest)
    × Lists no_memory len count (next_after (fed r bytes)) (drop (taken r bytes) bytes) rest end

-- a file, read from this start on, prints this, and ends so
abbrev pub IsListing : List ℕ → Reading → List ℕ → List ℕ → FileEnd → Type 0
IsListing no_memory start bytes out end = (count : ℕ) × Lists no_memory (length bytes) count start bytes out end

-- the exit status
abbrev pub end_status : FileEnd → ℕ
end_status complete = 0
end_status end = 1

-- What standard output gets of a file, and the exit status.
pub data IsListed (no_memory : List ℕ) (start : Reading) (bytes : List ℕ) (out out' : Writing) (status : ℕ) : Type 0 where
  -- all that the file prints, and the status says how the file ended
  whole : (text : List ℕ) (end : FileEnd) → IsListing no_memory start bytes text end → Writes out out' text → status ≡ end_status end
      → IsListed no_memory start bytes out out' status
  -- a write failed, and it got a beginning of that
  cut_short : (text : List ℕ) (end : FileEnd) → IsListing no_memory start bytes text end → WritesFront out out' text → status ≡ 1
      → IsListed no_memory start bytes out out' status
