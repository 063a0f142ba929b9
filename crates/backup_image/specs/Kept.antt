-- The frames that an image keeps of its last commits. Frames are numbered from 1, in the order that the guest sent them since boot or the
-- last full checkpoint, those too that go to no client. So the kept ones have consecutive numbers, up to that of the last one committed.
use Rattle.std.specs.Prelude.{ℕ, ◌+◌, ◌-◌, ◌<◌, ◌≤◌, ◌==◌, if◌then◌else◌, List, [], ◌∷◌, ◌++◌, length, drop, All}
use Rattle.std.specs.List.{sum_by}
use Rattle.arrayvec.specs.ArrayVec.{ArrayVec}
use Rattle.net_device.specs.Frames.{IsFrame}
use Rattle.epoch_snapshot.specs.Checkpoints.{Change}
use Rattle.backup_image.specs.Limits.{max_kept, number_limit}

pub record Kept : Type 0 where
  -- for each of the last commits, at most four, the oldest first, the frames of its checkpoint
  pub lists : List (List (ArrayVec ℕ))
  -- the number of the last frame committed, 0 if none
  pub sent : ℕ

-- no checkpoint was committed yet
abbrev pub none_kept : Kept
none_kept = record { lists = []; sent = 0 }

-- how many frames are kept
abbrev pub count_kept : List (List (ArrayVec ℕ)) → ℕ
count_kept lists = sum_by (λ l. length l) lists

-- the number of the first kept frame
abbrev pub first_kept : Kept → ℕ
first_kept k = k.sent + 1 - count_kept k.lists

-- what is true of all kept frames: a checkpoint has as many as an outbox holds at most
pub record IsKept (k : Kept) : Type 0 where
  pub few : length k.lists ≤ max_kept
  pub short : All (λ l. length l ≤ 256) k.lists
  pub frames : All (λ l. All IsFrame l) k.lists
  pub counted : count_kept k.lists ≤ k.sent
  pub numbers : k.sent < number_limit

-- of these lists the last four
abbrev pub last_kept : List (List (ArrayVec ℕ)) → List (List (ArrayVec ℕ))
last_kept lists = drop (length lists - max_kept) lists

-- these lists with one more, the last four of them
abbrev pub kept_after : List (List (ArrayVec ℕ)) → List (ArrayVec ℕ) → List (List (ArrayVec ℕ))
kept_after lists frames = last_kept (lists ++ frames ∷ [])

-- what a checkpoint's frames come after: a full one stands for no epoch, and begins anew
abbrev pub kept_before : Change → List (List (ArrayVec ℕ)) → List (List (ArrayVec ℕ))
kept_before c lists = if c.number == 0 then [] else lists

abbrev pub sent_before : Change → ℕ → ℕ
sent_before c sent = if c.number == 0 then 0 else sent

-- the kept lists after the commit of a checkpoint, and the number of the last frame
abbrev pub kept_with : Change → List (List (ArrayVec ℕ)) → List (List (ArrayVec ℕ))
kept_with c lists = kept_after (kept_before c lists) c.frames

abbrev pub sent_with : Change → ℕ → ℕ
sent_with c sent = sent_before c sent + length c.frames
