-- How the fields of the nodes stand for what contracts see.
use Rattle.std.specs.Prelude.{◌≡◌, ◌+◌, ◌-◌, ◌≤◌, false, not, [], All, length, None, Some, if◌then◌else◌}
use Rattle.failover.specs.declared.mode.Mode.TheVariants as modes
use Rattle.frame_ports.specs.Limits.{number_limit}
use Rattle.backup_image.specs.declared.standing.Standing.{Standing}
use Rattle.pair_record.specs.Limits.{last_frame, most_pending}
use Rattle.pair_record.specs.Modes.{is_alone}
use Rattle.pair_record.specs.Window.{NumberedFrom}
use Rattle.pair_core.specs.Nodes.{HasShape, node_of}
use Rattle.pair_nodes.specs.declared.primary.PrimaryNode.TheInside.{Inside as PrimaryFields}
use Rattle.pair_nodes.specs.declared.standby.StandbyNode.TheInside.{Inside as StandbyFields}
use Rattle.checkpoint_stream.specs.Bounds.{most_text}
use Rattle.pair_nodes.specs.Flagged.{Flagged}
use Rattle.pair_nodes.specs.PrimaryCalls.{mode_of}
use Rattle.pair_nodes.specs.Sides.{Primary, Standby, to_commit}
use Rattle.pair_nodes.specs.StandbyCalls.{is_empty}

abbrev pub primary_state : PrimaryFields → Primary
primary_state a = record {
  live = node_of a.kept.machine;
  shape = a.shape;
  generation = a.generation.number;
  backed = not (is_alone a.generation.mode);
  to_cut = a.to_cut;
  pending = a.gate.epochs;
  texts = a.kept.texts;
  next_frame = a.gate.next;
}

abbrev pub flagged_state : PrimaryFields → Flagged
flagged_state a = record { primary = primary_state a; flags = a.kept.machine.written }

-- The guest has its shape; what is pending has consecutive numbers up to the last one cut, is at most four checkpoints, each with its text, and none where it is
-- alone; the mode is what that says; and the frames that it may still let out have numbers.
pub record IsPrimary (a : PrimaryFields) : Type 0 where
  pub sized : HasShape a.shape a.kept.machine.guest
  pub numbered : NumberedFrom (a.to_cut - length a.gate.epochs) a.gate.epochs
  pub most : length a.gate.epochs ≤ a.to_cut
  pub few : length a.gate.epochs ≤ most_pending
  pub texts : length a.kept.texts ≡ length a.gate.epochs
  pub short : All (λ text. length text ≤ most_text a.shape) a.kept.texts
  pub mode : a.generation.mode ≡ mode_of (primary_state a)
  pub alone : a.generation.mode ≡ modes.Alone → a.gate.epochs ≡ []
  pub to_cut : 1 ≤ a.to_cut
  pub last_cut : a.to_cut ≤ number_limit
  pub numbers : a.gate.next + length a.kept.machine.outbox ≤ number_limit
  pub room : is_alone a.generation.mode ≡ false → a.gate.next ≤ last_frame + 256

abbrev pub standby_state : StandbyFields → Standby
standby_state a = record { generation = a.generation.number; image = a.image; reading = a.reader }

-- Nothing is staged between two calls, the image stands in the generation that it was told, what comes is read in its shape, and it is
-- filling while the image is empty.
pub record IsStandby (a : StandbyFields) : Type 0 where
  pub staged : a.image.staged ≡ None
  pub stands : (at : Standing) → a.image.stands_at ≡ Some at → at.generation ≡ a.generation.number
  pub shape : a.reader.shape ≡ a.image.shape
  pub last : to_commit (standby_state a) ≤ number_limit
  pub mode : a.generation.mode ≡ (if is_empty (standby_state a) then modes.Filling else modes.Paired)
