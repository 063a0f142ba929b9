-- How long a checkpoint's text is at most, by its shape.
use Rattle.std.proofs.Common.{◌≡◌, ℕ, ◌+◌, ◌*◌, ◌≤◌, List, [], ◌∷◌, ◌++◌, length, take, drop, map, ap, arith, All, count_ones}
use Rattle.std.proofs.lemmas.List.{length-append, length-take, length-drop, length-map}
use Rattle.std.proofs.lemmas.List.Elements.{All-head, All-tail, All-take, All-drop}
use Rattle.arrayvec.specs.ArrayVec.{ArrayVec}
use Rattle.net_device.specs.Frames.{IsFrame}
use Rattle.epoch_snapshot.specs.Checkpoints.{Change, IsCanonical}
use Rattle.epoch_snapshot.specs.declared.changes.PageChange.{PageChange}
use Rattle.epoch_snapshot.specs.declared.changes.SectorChange.{SectorChange}
use Rattle.checkpoint_stream.specs.HeadTable.{head_table, bytes_of}
use Rattle.checkpoint_stream.specs.Text.{head_numbers, number_units, page_record, page_units, sector_units, frame_units, units_of_frames}
use Rattle.checkpoint_stream.specs.Text.{joined, text}
use Rattle.checkpoint_stream.specs.Widths.{HasWidths}
use Rattle.checkpoint_stream.specs.declared.rules.Row.{Row}
use Rattle.checkpoint_stream.specs.declared.rules.Width.TheVariants.{Four, Eight}
use Rattle.checkpoint_stream.proofs.Numbers.{length-bytes_of, length-head_table, width-most}
use Rattle.checkpoint_stream.proofs.Spelling.{joined-append, text-spelled, frames-spelled}
use Rattle.checkpoint_stream.specs.Bounds.{most_text}
use Rattle.checkpoint_stream.proofs.Holding.{blocks-few}
use Rattle.checkpoint_stream.proofs.RecordsRead.{Rises-end}

head_size : (rows : List Row) (ns : List ℕ) → length (joined (number_units rows ns)) ≤ 8 * length rows
unfolding joined number_units
head_size [] ns = omega arith
head_size (row ∷ rows) [] = omega arith
head_size (row ∷ rows) (n ∷ ns) =
    omega (
      arith,
      length-append (bytes_of row.width n) (joined (number_units rows ns)),
      length-bytes_of row.width n,
      width-most row.width,
      head_size rows ns,
    )

blocks_size : (bs : List (List ℕ)) → All (λ b. length b ≡ 64) bs → length (joined bs) ≤ 64 * length bs
unfolding joined
blocks_size [] all = omega arith
blocks_size (b ∷ bs) all =
    omega (
      arith,
      length-append b (joined bs),
      All-head (λ b. length b ≡ 64) b bs all,
      blocks_size bs (All-tail (λ b. length b ≡ 64) b bs all),
    )

-- a page's record takes 12 bytes beside its blocks
record_size : (p : PageChange) (bs : List (List ℕ)) → All (λ b. length b ≡ 64) bs → length (joined (page_record p bs)) ≤ 12 + 64 * length bs
unfolding joined
record_size p bs all =
    omega (
      arith,
      length-append (bytes_of Four p.page) (joined (bytes_of Eight p.mask ∷ bs)),
      length-append (bytes_of Eight p.mask) (joined bs),
      length-bytes_of Four p.page,
      length-bytes_of Eight p.mask,
      blocks_size bs all,
    )

pages_size : (ps : List PageChange) (bs : List (List ℕ)) → All (λ b. length b ≡ 64) bs
    → length (joined (page_units ps bs)) ≤ 12 * length ps + 64 * length bs
unfolding joined page_units
pages_size [] bs all = omega arith
pages_size (p ∷ ps) bs all =
    let k = count_ones p.mask in
    let own = record_size p (take k bs) (All-take (λ b. length b ≡ 64) k bs all) in
    let later = pages_size ps (drop k bs) (All-drop (λ b. length b ≡ 64) k bs all) in
    omega (
      arith,
      ap (λ l. length l) (joined-append (page_record p (take k bs)) (page_units ps (drop k bs))),
      length-append (joined (page_record p (take k bs))) (joined (page_units ps (drop k bs))),
      own,
      later,
      length-take k bs,
      length-drop k bs,
    )

sectors_size : (ss : List SectorChange) → All (λ s. length s.bytes ≡ 512) ss → length (joined (sector_units ss)) ≤ 516 * length ss
unfolding joined sector_units
sectors_size [] all = omega arith
sectors_size (s ∷ ss) all =
    omega (
      arith,
      length-append (bytes_of Four s.sector) (s.bytes ++ joined (sector_units ss)),
      length-append s.bytes (joined (sector_units ss)),
      length-bytes_of Four s.sector,
      All-head (λ s. length s.bytes ≡ 512) s ss all,
      sectors_size ss (All-tail (λ s. length s.bytes ≡ 512) s ss all),
    )

frames_size : (fs : List (ArrayVec ℕ)) → All IsFrame fs → length (joined (frame_units fs)) ≤ 1518 * length fs
unfolding joined frame_units
frames_size [] all = omega arith
frames_size (f ∷ fs) all =
    omega (
      arith,
      length-append (bytes_of Four (length f.items)) (f.items ++ joined (frame_units fs)),
      length-append f.items (joined (frame_units fs)),
      length-bytes_of Four (length f.items),
      (All-head IsFrame f fs all).1,
      frames_size fs (All-tail IsFrame f fs all),
    )

pub text_size : (c : Change) → c.version ≡ 2 → IsCanonical c → HasWidths c → length (text c) ≤ most_text c.shape
text_size c second canonical widths =
    let head = joined (number_units head_table (head_numbers c)) in
    let pages = joined (page_units c.pages c.blocks) in
    let sectors = joined (sector_units c.sectors) in
    let frames = joined (frame_units c.frames) in
    let p = bytes_of Four (length c.pages) in
    let s = bytes_of Four (length c.sectors) in
    let f = bytes_of Four (length c.frames) in
    let last = joined (units_of_frames c.version c.frames) in
    omega (
      arith,
      ap (λ (l : List ℕ). length l) (text-spelled c),
      length-append head ((p ++ pages) ++ ((s ++ sectors) ++ last)),
      length-append (p ++ pages) ((s ++ sectors) ++ last),
      length-append p pages,
      length-append (s ++ sectors) last,
      length-append s sectors,
      ap (λ (l : List ℕ). length l) (frames-spelled c.version c.frames second),
      length-append f frames,
      head_size head_table (head_numbers c),
      length-head_table,
      length-bytes_of Four (length c.pages),
      length-bytes_of Four (length c.sectors),
      length-bytes_of Four (length c.frames),
      pages_size c.pages c.blocks widths.blocks,
      blocks-few c.pages widths.masks,
      canonical.block_count,
      Rises-end 0 c.shape.pages (map (λ q. q.page) c.pages) canonical.pages,
      length-map c.pages (λ q. q.page),
      sectors_size c.sectors widths.sectors,
      Rises-end 0 c.shape.sectors (map (λ q. q.sector) c.sectors) canonical.sectors,
      length-map c.sectors (λ q. q.sector),
      frames_size c.frames canonical.frames,
      canonical.frame_count,
    )
