-- What a gate holds, and the numbers of the frames.
use Rattle.std.specs.Prelude.{ℕ, ◌+◌, ◌-◌, ◌<◌, ◌≤◌, List, [], length, All, AllPairs}
use Rattle.arrayvec.specs.ArrayVec.{ArrayVec}
use Rattle.frame_ports.specs.Limits.{number_limit}
use Rattle.output_gate.specs.Epochs.{Epoch, frames_of, IsEpoch}
use Rattle.output_gate.specs.Limits.{max_epochs}

-- the number that the guest's next frame gets, and the epochs held. The guest's frames have the numbers 1, 2 and so on, in the order
-- sent, so those held are numbered up to the one before next
pub record GateState : Type 0 where
  pub next : ℕ
  pub epochs : List Epoch

-- the held frames, in the order sent, and the number of the first; where none is held, the number that the next one gets
abbrev pub held_frames : GateState → List (ArrayVec ℕ)
held_frames g = frames_of g.epochs

abbrev pub first_held : GateState → ℕ
first_held g = g.next - length (frames_of g.epochs)

-- a gate that holds nothing, after that many frames were sent
abbrev pub begun : ℕ → GateState
begun sent = record { next = sent + 1; epochs = [] }

-- what is true of every gate: at most 5 epochs, by rising number; the first held frame has at least number 1, and the
-- next number is at most 2^62
pub record IsGate (g : GateState) : Type 0 where
  pub few : length g.epochs ≤ max_epochs
  pub rising : AllPairs (λ a b. a.number < b.number) g.epochs
  pub epochs : All IsEpoch g.epochs
  pub numbers : length (frames_of g.epochs) < g.next
  pub limit : g.next ≤ number_limit
