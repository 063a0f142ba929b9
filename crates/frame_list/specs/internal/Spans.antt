-- Where frames lie among the bytes of a list.
use Rattle.std.specs.Prelude.{ℕ, ◌+◌, ◌-◌, ◌*◌, ◌≤◌, List, length, map, slice_range}
use Rattle.std.specs.List.{All}
use Rattle.arrayvec.specs.ArrayVec.{ArrayVec}
use Rattle.frame_list.specs.Listed.{Listed}
use Rattle.frame_list.specs.declared.spans.Span.{Span}

-- the frame that lies there
abbrev pub frame_at : List ℕ → Span → ArrayVec ℕ
frame_at bytes s = record { items = slice_range bytes s.start s.end }

abbrev pub listed_in : List ℕ → List Span → ℕ → Listed
listed_in bytes spans places = record { items = map (frame_at bytes) spans; places = places }

-- it lies among so many bytes, and is no longer than a frame
abbrev pub IsInside : ℕ → Span → Type 0
IsInside len s = (s.start ≤ s.end) × (s.end ≤ len) × (s.end - s.start ≤ 1514)

-- each frame lies among the bytes, and as many more find room
pub record IsListed (bytes : List ℕ) (spans : List Span) (places byte_room span_room : ℕ) : Type 0 where
  pub inside : All (IsInside (length bytes)) spans
  pub bytes_fit : length bytes + 1514 * places ≤ byte_room
  pub spans_fit : length spans + places ≤ span_room
