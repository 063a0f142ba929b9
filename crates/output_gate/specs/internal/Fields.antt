-- How the fields of a gate stand for the epochs that it holds and for the next number.
use Rattle.std.specs.Prelude.{◌≡◌, ℕ, ◌*◌, ◌≤◌, List, [], ◌∷◌, length, take, drop, sum_by, vec_capacity}
use Rattle.arrayvec.specs.ArrayVec.{ArrayVec}
use Rattle.output_gate.specs.Epochs.{Epoch, epoch}
use Rattle.output_gate.specs.Gate.{GateState, IsGate}
use Rattle.output_gate.specs.declared.gate.Gate.TheInside.{Inside}
use Rattle.output_gate.specs.declared.marks.Mark.{Mark}
use Rattle.output_gate.specs.Limits.{max_epochs, max_frames}

-- how many frames these epochs have
abbrev pub total : List Mark → ℕ
total marks = sum_by (λ m. m.count) marks

-- the frames, cut into epochs
abbrev pub epochs_of : List Mark → List (ArrayVec ℕ) → List Epoch
epochs_of [] frames = []
epochs_of (m ∷ ms) frames = epoch m.number (take m.count frames) ∷ epochs_of ms (drop m.count frames)

abbrev pub epochs_held : Inside → List Epoch
epochs_held g = epochs_of g.marks.items g.frames.items

abbrev pub gate_state : Inside → GateState
gate_state g = record { next = g.next; epochs = epochs_held g }

-- no frame beside the epochs, and the room that was reserved
pub record AreFields (g : Inside) : Type 0 where
  pub gate : IsGate (gate_state g)
  pub whole : total g.marks.items ≡ length g.frames.items
  pub marks : max_epochs ≤ vec_capacity g.marks
  pub frames : max_epochs * max_frames ≤ vec_capacity g.frames
