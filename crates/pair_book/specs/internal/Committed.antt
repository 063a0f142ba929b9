-- What the backup has committed and is to commit, beside the record: the frames that the gate may still owe are the last that it has, and
-- the texts that were sealed for it make what they should.
use Rattle.std.specs.Prelude.{◌≡◌, ◌+◌, ◌≤◌, false, List, [], ◌++◌, length}
use Rattle.frame_ports.specs.Ports.{PortsState}
use Rattle.output_gate.specs.Landings.{AreOld}
use Rattle.pair_history.specs.Entries.{Frame}
use Rattle.pair_history.specs.HistoryState.{HistoryState}
use Rattle.pair_record.specs.FailureActs.{first_uncommitted}
use Rattle.pair_record.specs.Kept.{all_frames, frames_by_epoch}
use Rattle.pair_record.specs.Modes.{is_alone}
use Rattle.pair_record.specs.Protocol.{Record}
use Rattle.pair_record.specs.Window.{committed_of}
use Rattle.growing_history.specs.Steps.{Step}
use Rattle.growing_history.specs.LogState.{state_at}
use Rattle.pair_book.specs.Made.{AreMade}
use Rattle.pair_book.specs.Standing.{commits_of}

-- These lists end with what the gate holds of committed checkpoints, epoch by epoch; the frames of the older ones, which are numbered from
-- 1, have come for each of their clients; and behind all of them comes the first frame that isn't committed.
pub record AreOwed (r : Record) (p : PortsState) (lists : List (List Frame)) : Type 0 where
  pub older : List (List Frame)
  pub all : lists ≡ older ++ frames_by_epoch (committed_of r.window r.pending)
  pub came : AreOld p 1 (all_frames older)
  pub count : length (all_frames lists) + 1 ≡ first_uncommitted r

-- So it is of the backup's commits, unless one is marked or a node is alone. Until a new backup's full checkpoint is sealed the guest's
-- frames are numbered on; and until it is committed nothing is.
pub record KeepsCommitted (start : HistoryState) (steps : List Step) (r : Record) (p : PortsState) : Type 0 where
  pub none : r.window.to_commit ≡ 0 → commits_of start steps ≡ []
  pub owed : (state_at start steps).marked ≡ 0 → is_alone r.mode ≡ false → 1 ≤ r.window.to_cut → AreOwed r p (commits_of start steps)
  pub made : AreMade start steps
