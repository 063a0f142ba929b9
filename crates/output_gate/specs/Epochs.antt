-- The epochs that a gate holds: the frames of each under the number of the checkpoint that ends it.
use Rattle.std.specs.Prelude.{ℕ, ◌≤◌, List, [], ◌∷◌, ◌++◌, length, All, nat_le, if◌then◌else◌}
use Rattle.arrayvec.specs.ArrayVec.{ArrayVec}
use Rattle.frame_ports.specs.Addresses.{IsFrame}
use Rattle.output_gate.specs.Limits.{max_frames}

-- the frames that the guest sent along one epoch, in the order sent, and the number of the checkpoint that ends it
pub record Epoch : Type 0 where
  pub number : ℕ
  pub frames : List (ArrayVec ℕ)

abbrev pub epoch : ℕ → List (ArrayVec ℕ) → Epoch
epoch number frames = record { number = number; frames = frames }

-- the frames of all these epochs, in order
abbrev pub frames_of : List Epoch → List (ArrayVec ℕ)
frames_of [] = []
frames_of (e ∷ es) = e.frames ++ frames_of es

-- the frames of the epochs up to that number, in order
abbrev pub frames_to : ℕ → List Epoch → List (ArrayVec ℕ)
frames_to n [] = []
frames_to n (e ∷ es) = if nat_le e.number n then e.frames ++ frames_to n es else frames_to n es

-- the epochs after that number
abbrev pub after_number : ℕ → List Epoch → List Epoch
after_number n [] = []
after_number n (e ∷ es) = if nat_le e.number n then after_number n es else e ∷ after_number n es

-- an epoch's outbox has at most 256 frames
abbrev pub IsEpoch : Epoch → Type 0
IsEpoch e = (length e.frames ≤ max_frames) × All IsFrame e.frames
