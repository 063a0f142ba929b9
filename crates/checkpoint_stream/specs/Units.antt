-- Reading whole units, one after another.
use Rattle.std.specs.Prelude.{◌≡◌, ℕ, ◌<◌, false, List, [], ◌∷◌, length}
use Rattle.checkpoint_stream.specs.Readings.{Reading, is_closed, width_of, judged}

-- the reading after these units
abbrev pub judged_all : Reading → List (List ℕ) → Reading
judged_all r [] = r
judged_all r (unit ∷ units) = judged_all (judged r unit) units

-- each unit is as wide as the one that comes next where it stands, and before it the reading is not closed and at the start of a unit
abbrev pub AreUnits : Reading → List (List ℕ) → Type 0
AreUnits r [] = Unit {0}
AreUnits r (unit ∷ units) =
    (is_closed r.place ≡ false) × (r.partial ≡ []) × (0 < length unit) × (length unit ≡ width_of r) × AreUnits (judged r unit) units
