-- Frames, one after another.
use Rattle.std.specs.Prelude.{ℕ, List}
use Rattle.arrayvec.specs.ArrayVec.{ArrayVec}

pub record Listed : Type 0 where
  -- the frames, in order
  pub items : List (ArrayVec ℕ)
  -- how many more are sure to find room, however long they are
  pub places : ℕ
