-- The starting contract of an output gate: nothing is made up.
use Rattle.std.specs.Prelude.{◌≡◌, ℕ, ◌⊎◌, List, Contains}
use Rattle.arrayvec.specs.ArrayVec.{ArrayVec}
use Rattle.frame_ports.specs.Ports.{PortsState, box_of}

-- what lands was held: each frame in a box was there before, or is one of those held; and nothing else changes but the clients' numbers
pub record OnlyLands (held : List (ArrayVec ℕ)) (old new : PortsState) : Type 0 where
  pub boxes : (c : ℕ) (f : ArrayVec ℕ) → Contains (box_of new c) f → Contains (box_of old c) f ⊎ Contains held f
  pub rest : new ≡ record old { boxes = new.boxes; numbers = new.numbers }
