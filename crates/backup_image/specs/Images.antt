-- The backup's image: a guest, the checkpoint that it was made by, the one that is to come next, and the frames of the last commits.
use Rattle.std.specs.Prelude.{ℕ, ◌+◌, ◌==◌, Bool, ◌&&◌, not, if◌then◌else◌, nat_lt, List, [], replicate, false, Option, Some, None, Result}
use Rattle.std.specs.Prelude.{Ok, Err}
use Rattle.guest_rules.specs.declared.shapes.Shape.{Shape}
use Rattle.guest_rules.specs.Guest.{Guest, State, boot_guest}
use Rattle.epoch_snapshot.specs.Checkpoints.{Change, is_old_delta}
use Rattle.epoch_snapshot.specs.Images.{image_of}
use Rattle.arrayvec.specs.ArrayVec.{ArrayVec}
use Rattle.backup_image.specs.declared.errors.ImageError.{ImageError}
use Rattle.backup_image.specs.declared.errors.ImageError.TheVariants.{NoImage, Stale, Gap, Exhausted, OldVersion}
use Rattle.backup_image.specs.declared.standing.Standing.{Standing}
use Rattle.backup_image.specs.declared.standing.Staged.{Staged}
use Rattle.backup_image.specs.declared.standing.Staged.TheVariants.{New, Again}
use Rattle.backup_image.specs.Kept.{none_kept, kept_with, sent_with}
use Rattle.backup_image.specs.Limits.{number_limit}

pub record ImageState : Type 0 where
  -- how large the guest is
  pub shape : Shape
  -- all zero and not yet run while the image is empty
  pub guest : Guest
  -- none while the image is empty
  pub stands_at : Option Standing
  -- the checkpoint that stands apart until the commit
  pub staged : Option Change
  -- for each of the last commits, at most four, the oldest first, the frames of its checkpoint
  pub kept : List (List (ArrayVec ℕ))
  -- the number of the last frame committed, 0 if none
  pub sent : ℕ

-- the image of a guest at boot, which counts as checkpoint 0 of generation 1
abbrev pub booted : Shape → List ℕ → ImageState
booted shape image = record {
  shape = shape;
  guest = boot_guest shape.pages shape.sectors image;
  stands_at = Some (record { generation = 1; number = 0 });
  staged = None;
  kept = none_kept.lists;
  sent = none_kept.sent;
}

-- the image before the first full checkpoint
abbrev pub empty_image : Shape → ImageState
empty_image shape = record {
  shape = shape;
  guest = boot_guest shape.pages shape.sectors [];
  stands_at = None;
  staged = None;
  kept = none_kept.lists;
  sent = none_kept.sent;
}

-- what a checkpoint of this generation and number is for an image that stands there. An empty image takes a full checkpoint, which has
-- number 0, of any generation, and nothing else. Otherwise the checkpoints of one generation come in turn (Remus, 2008: the backup
-- applies the checkpoints in the order of their epochs), and one that is in the image already may come again
abbrev pub answer_at : Option Standing → ℕ → ℕ → Result Staged ImageError
answer_at None generation number = if number == 0 then Ok New else Err NoImage
answer_at (Some at) generation number =
    if not (generation == at.generation) then Err Stale
    else if nat_lt (at.number + 1) number then Err Gap
    else if number == at.number + 1 then Ok New
    else Ok Again

-- a new one is refused, last, where its last frame would have this number and that reaches the limit
abbrev pub if_numbered : ℕ → Result Staged ImageError → Result Staged ImageError
if_numbered last (Ok New) = if nat_lt last number_limit then Ok New else Err Exhausted
if_numbered last (Ok Again) = Ok Again
if_numbered last (Err e) = Err e

abbrev pub stage_answer : ImageState → Change → Result Staged ImageError
stage_answer i c =
    if is_old_delta c then Err OldVersion
    else if_numbered (sent_with c i.sent) (answer_at i.stands_at c.generation c.number)

-- a new checkpoint takes the place of what was staged; otherwise that stays
abbrev pub staged_after : Result Staged ImageError → Change → Option Change → Option Change
staged_after (Ok New) c before = Some c
staged_after (Ok Again) c before = before
staged_after (Err e) c before = before

-- the image after a checkpoint was staged: its guest, where it stands and what it keeps are as before
abbrev pub after_stage : ImageState → Change → ImageState
after_stage i c = record i { staged = staged_after (stage_answer i c) c i.staged }

-- the image after a checkpoint was applied to its guest, whole (Remus, 2008: a checkpoint of the buffered changes is applied once all of
-- it has come), and its frames were kept
abbrev pub applied : ImageState → Option Change → ImageState
applied i None = i
applied i (Some c) = record i {
  guest = image_of c i.guest;
  stands_at = Some (record { generation = c.generation; number = c.number });
  staged = None;
  kept = kept_with c i.kept;
  sent = sent_with c i.sent;
}

-- the image after a commit: what was staged is applied, and nothing is staged
abbrev pub committed : ImageState → ImageState
committed i = applied i i.staged

-- the machine of a guest of so many pages that sent no frame and wrote no page or sector since its last settle
abbrev pub settled_machine : Shape → Guest → State
settled_machine shape g = record {
  guest = g;
  outbox = [];
  dirty = [];
  settled = g.ram;
  written = replicate shape.pages false;
}
