-- What bounds the lists of a node bounds its bytes.
use Rattle.std.proofs.Common.{◌≡◌, ℕ, ◌+◌, ◌*◌, ◌≤◌, List, [], ◌∷◌, length, arith, All, ap}
use Rattle.std.proofs.lemmas.List.Sums.{sum_by-le}
use Rattle.std.proofs.lemmas.Nat.{mul-le}
use Rattle.std.specs.List.{sum_by}
use Rattle.epoch_snapshot.specs.declared.changes.SectorChange.{SectorChange}
use Rattle.checkpoint_stream.specs.Bounds.{IsBounded, most_text}
use Rattle.checkpoint_stream.specs.Readings.{Reading}
use Rattle.frame_ports.specs.Addresses.{IsFrame}
use Rattle.guest_rules.specs.Dirty.{Rises}
use Rattle.guest_rules.specs.declared.shapes.Shape.{Shape}
use Rattle.output_gate.specs.Epochs.{frames_of}
use Rattle.pair_history.specs.Entries.{Frame}
use Rattle.pair_nodes.specs.Bounds.{IsBoundedPrimary, IsBoundedStandby, frame_bytes, primary_bytes, most_primary_bytes}
use Rattle.pair_nodes.specs.Bounds.{reading_bytes, standby_bytes, most_standby_bytes}
use Rattle.pair_nodes.specs.Sides.{Primary, Standby}

-- a rising list is no longer than its numbers allow
pub rises_length : (from end : ℕ) (is : List ℕ) → Rises from end is → from + length is ≤ end
rises_length from end [] h = let ordered : from ≤ end = h in omega arith
rises_length from end (i ∷ is) h =
    let least : from ≤ i = h.0 in
    let rest = rises_length (i + 1) end is h.1 in
    omega arith

-- at most 1514 bytes a frame
frames-bytes : (fs : List Frame) → All IsFrame fs → frame_bytes fs ≤ length fs * 1514
frames-bytes fs all = sum_by-le (λ (f : Frame). length f.items) 1514 fs (λ k d h. (all k d h).1)

texts-bytes : (most : ℕ) (ts : List (List ℕ)) → length ts ≤ 4 → All (λ t. length t ≤ most) ts → sum_by (λ t. length t) ts ≤ 4 * most
texts-bytes most ts few all =
    omega (arith, sum_by-le (λ (t : List ℕ). length t) most ts all, mul-le (length ts) most 4 most few (omega arith))

pub primary-bytes : (p : Primary) → IsBoundedPrimary p → primary_bytes p ≤ most_primary_bytes p.shape
primary-bytes p h =
    omega (
      arith,
      h.ram,
      h.settled,
      h.sectors,
      h.written,
      h.sent,
      frames-bytes p.live.outbox h.sent_frames,
      h.held,
      frames-bytes (frames_of p.pending) h.held_frames,
      texts-bytes (most_text p.shape) p.texts h.texts h.text_bytes,
    )

kept-bytes : (kept : List (List Frame)) → All (λ fs. length fs ≤ 256) kept → All (λ fs. All IsFrame fs) kept
    → sum_by (λ fs. frame_bytes fs) kept ≤ length kept * (256 * 1514)
kept-bytes kept few each =
    sum_by-le (λ (fs : List Frame). frame_bytes fs) (256 * 1514) kept (λ k d h. omega (arith, few k d h, frames-bytes _ (each k d h)))

blocks-bytes : (bs : List (List ℕ)) → All (λ b. length b ≡ 64) bs → sum_by (λ b. length b) bs ≤ length bs * 64
blocks-bytes bs all = sum_by-le (λ (b : List ℕ). length b) 64 bs (λ k d h. omega (arith, all k d h))

sectors-bytes : (ss : List SectorChange) → All (λ s. length s.bytes ≡ 512) ss → sum_by (λ s. 4 + length s.bytes) ss ≤ length ss * 516
sectors-bytes ss all = sum_by-le (λ (s : SectorChange). 4 + length s.bytes) 516 ss (λ k d h. omega (arith, all k d h))

-- what was read takes less than the longest text and one unit
reading-bytes : (r : Reading) → IsBounded r → reading_bytes r ≤ most_text r.shape + 1514
reading-bytes r h =
    omega (
      arith,
      h.head,
      h.pages,
      h.blocks,
      blocks-bytes r.blocks h.block_bytes,
      h.sectors,
      sectors-bytes r.sectors h.sector_bytes,
      h.frames,
      frames-bytes r.frames h.each_frame,
      h.begun,
    )

pub standby-bytes : (b : Standby) → IsBoundedStandby b → standby_bytes b ≤ most_standby_bytes b.image.shape
standby-bytes b h =
    omega (
      arith,
      h.ram,
      h.sectors,
      h.kept,
      kept-bytes b.image.kept h.kept_frames h.each_frame,
      reading-bytes b.reading h.reading,
      ap (λ (s : Shape). most_text s) h.shape,
    )
