-- What the backup's image keeps of the guest's frames, while there is a backup: those that the gate may still owe, under the gate's
-- numbers.
use Rattle.std.specs.Prelude.{◌≡◌, ℕ, ◌+◌, ◌-◌, ◌≤◌, List, [], ◌∷◌, ◌++◌, length}
use Rattle.std.specs.List.{filter}
use Rattle.frame_ports.specs.Addresses.{paired_with}
use Rattle.frame_ports.specs.Numbers.{is_new}
use Rattle.frame_ports.specs.Ports.{PortsState}
use Rattle.output_gate.specs.Landings.{AreOld, clients_for}
use Rattle.backup_image.specs.Images.{ImageState}
use Rattle.pair_history.specs.Entries.{Frame}
use Rattle.pair_record.specs.Kept.{all_frames, frames_by_epoch}
use Rattle.pair_record.specs.{FailureActs.first_uncommitted, Protocol.Record}
use Rattle.pair_record.specs.Window.{committed_of}

-- the number of the first frame that it keeps
abbrev pub first_kept : ImageState → ℕ
first_kept i = i.sent + 1 - length (all_frames i.kept)

-- of these frames, the first of which has that number, each with those of its clients for whom none with its number, or a later one, came
abbrev pub new_targets : PortsState → ℕ → List Frame → List (ℕ × Frame)
new_targets p first [] = []
new_targets p first (f ∷ fs) = paired_with (filter (λ c. is_new p c first) (clients_for p f)) f ++ new_targets p (first + 1) fs

-- what it keeps that has not come for its clients
abbrev pub kept_targets : PortsState → ImageState → List (ℕ × Frame)
kept_targets p i = new_targets p (first_kept i) (all_frames i.kept)

-- The last frame that it took in is the last one of a committed checkpoint. Its last lists are, checkpoint by checkpoint, what the gate
-- holds of committed ones; and the frames of its older lists have come for each of their clients.
pub record KeepsFrames (r : Record) (p : PortsState) (i : ImageState) : Type 0 where
  pub sent : i.sent + 1 ≡ first_uncommitted r
  pub numbers : length (all_frames i.kept) ≤ i.sent
  pub older : List (List Frame)
  pub lists : i.kept ≡ older ++ frames_by_epoch (committed_of r.window r.pending)
  pub came : AreOld p (first_kept i) (all_frames older)
