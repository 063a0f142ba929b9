-- A reading holds no more records and frames than its shape allows.
use Rattle.std.proofs.Common.{◌≡◌, ℕ, ◌*◌, ◌<◌, ◌≤◌, List, [], ◌∷◌, ◌++◌, length, arith, map, All}
use Rattle.std.proofs.Common.{count_ones, length-append, take, ap, sym, subst}
use Rattle.std.proofs.lemmas.{List.{length-map, length-take}, List.Elements.{All-nil, All-head, All-tail}, List.Sums.{sum_by-cons}}
use Rattle.std.proofs.lemmas.{Nat.ones-le}
use Rattle.epoch_snapshot.specs.declared.changes.{PageChange.PageChange, SectorChange.SectorChange}
use Rattle.epoch_snapshot.specs.Checkpoints.{block_count}
use Rattle.checkpoint_stream.specs.declared.{place.Place.Place}
use Rattle.checkpoint_stream.specs.declared.place.Place.TheVariants.{Head, PageCount, PageIndex, PageMask, Block, SectorCount, SectorIndex}
use Rattle.checkpoint_stream.specs.declared.place.Place.TheVariants.{SectorBytes, FrameCount, FrameLength, FrameBytes, Whole, Failed}
use Rattle.checkpoint_stream.specs.{Readings.Reading}
use Rattle.checkpoint_stream.specs.{Readings.width_at, Sound.{HoldsFew, HasNoRecords, HasRecords, HasFrames, StandsAt, FramesAt}}
use Rattle.checkpoint_stream.specs.{Taken.HasPlaces}
use Rattle.checkpoint_stream.specs.{HeadTable.{row_at}}
use Rattle.checkpoint_stream.proofs.{RecordsRead.{Rises-end, FitsMask}, Numbers.width-most}
use Rattle.net_device.specs.Frames.{IsFrame}

-- what changes no record and no frame
pub keep-few : (r : Reading) (place : Place) (partial : List ℕ) → HoldsFew r → HoldsFew (record r { place = place; partial = partial })
keep-few r place partial h =
    record { pages = h.pages; blocks = h.blocks; sectors = h.sectors; frames = h.frames; each_frame = h.each_frame }

-- the pages that were read are lower than the limit, and so are the sectors
few-records : (r : Reading) (page_limit due sector_limit : ℕ) → HasRecords r page_limit due sector_limit → length r.frames ≤ 256 →
    All IsFrame r.frames → HoldsFew r
few-records r page_limit due sector_limit h few each = record {
  pages = omega (
    arith,
    h.page_end,
    Rises-end 0 page_limit (map (λ (p : PageChange). p.page) r.pages) h.pages,
    length-map r.pages (λ (p : PageChange). p.page),
  );
  blocks = omega (arith, h.count);
  sectors = omega (
    arith,
    h.sector_end,
    Rises-end 0 sector_limit (map (λ (s : SectorChange). s.sector) r.sectors) h.sectors,
    length-map r.sectors (λ (s : SectorChange). s.sector),
  );
  frames = few;
  each_frame = each;
}

no-frame : (r : Reading) → r.frames ≡ [] → All IsFrame r.frames
no-frame r none = subst (All IsFrame) (sym none) (All-nil IsFrame)

few-unframed : (r : Reading) (page_limit due sector_limit : ℕ) → HasRecords r page_limit due sector_limit → r.frames ≡ [] → HoldsFew r
few-unframed r page_limit due sector_limit h none =
    few-records r page_limit due sector_limit h (omega (arith, ap length none)) (no-frame r none)

few-nothing : (r : Reading) → HasNoRecords r → r.frames ≡ [] → HoldsFew r
few-nothing r h none = record {
  pages = omega (arith, ap length h.pages);
  blocks = omega (arith, ap length h.blocks);
  sectors = omega (arith, ap length h.sectors);
  frames = omega (arith, ap length none);
  each_frame = no-frame r none;
}

few-frames : (r : Reading) (due : ℕ) → HasRecords r r.shape.pages 0 r.shape.sectors → HasFrames r due → HoldsFew r
few-frames r due h f = few-records r r.shape.pages 0 r.shape.sectors h (omega (arith, f.count)) f.each

pub few-at : (p : Place) (r : Reading) → StandsAt p r → FramesAt p r → HoldsFew r
few-at Head r s f = few-nothing r s.1 f
few-at PageCount r s f = few-nothing r s.1 f
few-at (PageIndex left from) r s f = few-unframed r _ _ _ s f
few-at (PageMask left page) r s f = few-unframed r _ _ _ s.1 f
few-at (Block left page more) r s f = few-unframed r _ _ _ s.1 f
few-at SectorCount r s f = few-unframed r _ _ _ s f
few-at (SectorIndex left from) r s f = few-unframed r _ _ _ s f
few-at (SectorBytes left sector) r s f = few-unframed r _ _ _ s.1 f
few-at FrameCount r s f = few-unframed r _ _ _ s f.1
few-at (FrameLength left) r s f = few-frames r _ s f
few-at (FrameBytes left len) r s f = few-frames r _ s f.1
few-at Whole r s f = few-frames r _ s f
few-at (Failed at) r s f = s

-- at most 64 blocks of each page
pub blocks-few : (ps : List PageChange) → All FitsMask ps → block_count ps ≤ 64 * length ps
blocks-few [] all = omega arith
blocks-few (p ∷ ps) all =
    omega (
      arith,
      sum_by-cons (λ (q : PageChange). count_ones q.mask) p ps,
      ones-le 64 p.mask (All-head FitsMask p ps all),
      blocks-few ps (All-tail FitsMask p ps all),
    )

-- the unit that has begun is shorter than the longest frame
pub begun-short : (p : Place) (known filled : ℕ) (buffer part : List ℕ) (frames places : ℕ) → filled < width_at p known →
    HasPlaces p filled part frames places → length (take filled buffer ++ part) < 1514
begun-short (FrameBytes left len) known filled buffer part frames places h k =
    omega (arith, k.0, k.1, k.2, length-append (take filled buffer) part, length-take filled buffer)
begun-short Head known filled buffer part frames places h k =
    omega (
      arith,
      h,
      width-most (row_at known).width,
      ap (λ (l : List ℕ). length l) k,
      length-append (take filled buffer) part,
      length-take filled buffer,
    )
begun-short (FrameLength left) known filled buffer part frames places h k =
    omega (arith, h, ap (λ (l : List ℕ). length l) k.0, length-append (take filled buffer) part, length-take filled buffer)
begun-short other known filled buffer part frames places h k =
    omega (arith, h, ap (λ (l : List ℕ). length l) k, length-append (take filled buffer) part, length-take filled buffer)
