-- HOW MUCH A NODE HOLDS, however long it runs, by its guest's shape alone (our rule: no node keeps a history): each list of it, and all of it
-- in bytes.
use Rattle.std.specs.Prelude.{◌≡◌, ◌≤◌, ℕ, ◌+◌, ◌*◌, All, List, length, None}
use Rattle.std.specs.List.{sum_by}
use Rattle.checkpoint_stream.specs.Bounds.{IsBounded, most_text}
use Rattle.checkpoint_stream.specs.Readings.{Reading}
use Rattle.frame_ports.specs.Addresses.{IsFrame}
use Rattle.guest_rules.specs.Limits.{page_bytes}
use Rattle.guest_rules.specs.declared.shapes.Shape.{Shape}
use Rattle.output_gate.specs.Epochs.{frames_of}
use Rattle.pair_history.specs.Entries.{Frame}
use Rattle.pair_nodes.specs.Sides.{Primary, Standby}

-- EACH LIST

pub record IsBoundedPrimary (p : Primary) : Type 0 where
  -- the guest's memory, the bytes that it had at the last cut, its disk, and the sectors written since
  pub ram : length p.live.guest.ram ≡ page_bytes * p.shape.pages
  pub settled : length p.live.settled ≡ page_bytes * p.shape.pages
  pub sectors : length p.live.guest.sectors ≡ 512 * p.shape.sectors
  pub written : length p.live.dirty ≤ p.shape.sectors
  -- what the guest sent since, in frames of at most 1514 bytes
  pub sent : length p.live.outbox ≤ 256
  pub sent_frames : All IsFrame p.live.outbox
  -- at most four pending checkpoints, their frames and their texts
  pub pending : length p.pending ≤ 4
  pub held : length (frames_of p.pending) ≤ 1024
  pub held_frames : All IsFrame (frames_of p.pending)
  pub texts : length p.texts ≤ 4
  pub text_bytes : All (λ t. length t ≤ most_text p.shape) p.texts

pub record IsBoundedStandby (b : Standby) : Type 0 where
  -- the image: the guest of the last commit, and the frames of the last four commits. Nothing is staged between two calls
  pub ram : length b.image.guest.ram ≡ page_bytes * b.image.shape.pages
  pub sectors : length b.image.guest.sectors ≡ 512 * b.image.shape.sectors
  pub staged : b.image.staged ≡ None
  pub kept : length b.image.kept ≤ 4
  pub kept_frames : All (λ frames. length frames ≤ 256) b.image.kept
  pub each_frame : All (λ frames. All IsFrame frames) b.image.kept
  -- what has come of the next checkpoint's text, by what the format allows of one at this shape
  pub shape : b.reading.shape ≡ b.image.shape
  pub reading : IsBounded b.reading

-- IN BYTES

abbrev pub frame_bytes : List Frame → ℕ
frame_bytes frames = sum_by (λ f. length f.items) frames

-- the number of a written sector takes four
abbrev pub primary_bytes : Primary → ℕ
primary_bytes p =
    length p.live.guest.ram + length p.live.settled + length p.live.guest.sectors + 4 * length p.live.dirty
    + frame_bytes p.live.outbox + frame_bytes (frames_of p.pending) + sum_by (λ t. length t) p.texts

-- the guest's memory twice, its disk, the frames of an outbox and of four more, and four texts
abbrev pub most_primary_bytes : Shape → ℕ
most_primary_bytes s = 2 * (page_bytes * s.pages) + (512 + 4) * s.sectors + (256 + 1024) * 1514 + 4 * most_text s

-- of what was read a number of the head takes eight, a page's number and mask 12, and a sector's number four
abbrev pub reading_bytes : Reading → ℕ
reading_bytes r =
    8 * length r.head + 12 * length r.pages + sum_by (λ b. length b) r.blocks + sum_by (λ s. 4 + length s.bytes) r.sectors
    + frame_bytes r.frames + length r.partial

abbrev pub standby_bytes : Standby → ℕ
standby_bytes b =
    length b.image.guest.ram + length b.image.guest.sectors + sum_by (λ frames. frame_bytes frames) b.image.kept + reading_bytes b.reading

-- the guest's memory and its disk, 1024 frames, one text, and a unit of the next
abbrev pub most_standby_bytes : Shape → ℕ
most_standby_bytes s = page_bytes * s.pages + 512 * s.sectors + 1024 * 1514 + most_text s + 1514
