-- HOW MUCH the format allows of a checkpoint, by its machine's shape alone: how long its text is, and how much a reader holds of one, whatever
-- bytes come and however many, also where a unit broke its rule.
use Rattle.std.specs.Prelude.{◌≡◌, ◌≤◌, ◌<◌, ℕ, ◌+◌, ◌*◌, All, length}
use Rattle.guest_rules.specs.declared.shapes.Shape.{Shape}
use Rattle.net_device.specs.Frames.{IsFrame}
use Rattle.checkpoint_stream.specs.Readings.{Reading}

-- The longest text: a head of 80 numbers; the pages, each with its number, its mask and 64 blocks of 64 bytes; the sectors, each with its
-- number and 512 bytes; and 256 frames, each of 1514 bytes with its length. Before each of these three stands their count.
abbrev pub most_text : Shape → ℕ
most_text s = 640 + (4 + (4 + 8 + 64 * 64) * s.pages) + (4 + (4 + 512) * s.sectors) + (4 + (4 + 1514) * 256)

-- what of it a reader holds
pub record IsBounded (r : Reading) : Type 0 where
  -- the numbers of the head
  pub head : length r.head ≤ 80
  -- a record for each page at most, with at most 64 blocks of 64 bytes; and one for each sector, with its 512 bytes
  pub pages : length r.pages ≤ r.shape.pages
  pub blocks : length r.blocks ≤ 64 * r.shape.pages
  pub block_bytes : All (λ b. length b ≡ 64) r.blocks
  pub sectors : length r.sectors ≤ r.shape.sectors
  pub sector_bytes : All (λ s. length s.bytes ≡ 512) r.sectors
  -- as many frames as an outbox holds, each of at most 1514 bytes
  pub frames : length r.frames ≤ 256
  pub each_frame : All IsFrame r.frames
  -- of the unit that has begun fewer bytes than the longest has, which is a frame's
  pub begun : length r.partial < 1514
