-- What a landing does to the boxes. The list at place c - 1 is the box of client c.
use Rattle.std.specs.Prelude.{ℕ, ◌+◌, ◌-◌, Bool, List, [], ◌∷◌, ◌++◌, length, slice_index_or, slice_set, nat_lt, if◌then◌else◌}
use Rattle.arrayvec.specs.ArrayVec.{ArrayVec}
use Rattle.frame_ports.specs.Limits.{box_frames}

module _ {X : Type 0} where
  -- the list of client c
  abbrev pub list_of : List (List X) → ℕ → List X
  list_of lists c = slice_index_or lists (c - 1) []

  -- the lists with that one in place of client c's
  abbrev pub with_list : List (List X) → ℕ → List X → List (List X)
  with_list lists c xs = slice_set lists (c - 1) xs

-- client c's box has room for one more frame
abbrev pub has_room : List (List (ArrayVec ℕ)) → ℕ → Bool
has_room boxes c = nat_lt (length (list_of boxes c)) box_frames

-- the boxes after a frame has landed for client c: it goes last in the box, and a full box drops it
abbrev pub landed_at : List (List (ArrayVec ℕ)) → ℕ → ArrayVec ℕ → List (List (ArrayVec ℕ))
landed_at boxes c f = if has_room boxes c then with_list boxes c (list_of boxes c ++ f ∷ []) else boxes

-- the boxes after all of these have landed, in turn
abbrev pub lands : List (List (ArrayVec ℕ)) → List (ℕ × ArrayVec ℕ) → List (List (ArrayVec ℕ))
lands boxes [] = boxes
lands boxes (p ∷ ps) = lands (landed_at boxes p.0 p.1) ps

-- how many of them were put into a box
abbrev pub put_count : List (List (ArrayVec ℕ)) → List (ℕ × ArrayVec ℕ) → ℕ
put_count boxes [] = 0
put_count boxes (p ∷ ps) = (if has_room boxes p.0 then 1 else 0) + put_count (landed_at boxes p.0 p.1) ps

-- how many of them a full box dropped
abbrev pub drop_count : List (List (ArrayVec ℕ)) → List (ℕ × ArrayVec ℕ) → ℕ
drop_count boxes [] = 0
drop_count boxes (p ∷ ps) = (if has_room boxes p.0 then 0 else 1) + drop_count (landed_at boxes p.0 p.1) ps
