-- A full checkpoint of a machine: it fits its widths, and its text is what is made first, and then the records and what stands behind them.
use Rattle.std.proofs.Common.{◌≡◌, ℕ, ◌+◌, ◌*◌, ◌^◌, ◌<◌, ◌≤◌, List, [], ◌∷◌, ◌++◌, length, map}
use Rattle.std.proofs.Common.{refl, sym, ap, ◌∙◌, arith, subst, All, Option}
use Rattle.std.proofs.lemmas.List.{length-append, length-map}
use Rattle.std.proofs.lemmas.List.Elements.{All-nil, All-cons, All-head, All-tail}
use Rattle.std.proofs.lemmas.List.Sums.{sum_by-cons}
use Rattle.guest_rules.specs.Dirty.{Rises}
use Rattle.guest_rules.specs.Guest.{Guest, State, sector_count}
use Rattle.guest_rules.specs.MachineStates.{state_of}
use Rattle.guest_rules.specs.declared.shapes.Shape.{Shape}
use Rattle.epoch_snapshot.specs.declared.changes.PageChange.{PageChange}
use Rattle.epoch_snapshot.specs.declared.changes.SectorChange.{SectorChange}
use Rattle.epoch_snapshot.specs.Bases.{IsFullCut}
use Rattle.epoch_snapshot.specs.Checkpoints.{Change, change_of}
use Rattle.epoch_snapshot.specs.Cuts.{changed_pages, changed_blocks, sector_change, changed_sectors, used_sectors}
use Rattle.epoch_snapshot.specs.Images.{image_of}
use Rattle.checkpoint_stream.specs.Bounds.{most_text}
use Rattle.checkpoint_stream.specs.HeadTable.{bytes_of, head_table}
use Rattle.checkpoint_stream.specs.ReadBack.{ReadsBack}
use Rattle.checkpoint_stream.specs.Text.{head_numbers, number_units, sector_units, joined, text}
use Rattle.checkpoint_stream.specs.Widths.{HasWidths}
use Rattle.checkpoint_stream.specs.declared.rules.Width.TheVariants.{Four, Eight}
use Rattle.full_text.specs.Full.{zeros, page_at, page_records, record_size, records_size, AreIn, Making, whole, IsFullText, blank}
use Rattle.full_text.specs.internal.CutRecords.{records}
use Rattle.full_text.proofs.KeptLemmas.{records-plain}
use Rattle.full_text.proofs.TextLemmas.{HasParts, PageIsSpelled, text-whole}
use Rattle.full_text.proofs.RecordLemmas.{OnesAreNamed, OwnAreRecorded, blocks-length, length-page}

-- rising numbers are below the end
rises-end : (from end : ℕ) (is : List ℕ) → Rises from end is → from ≤ end
rises-end from end [] h = h
rises-end from end (i ∷ is) h = omega (arith, h.0, rises-end (i + 1) end is h.1)

pub pages-in : (bytes n from : ℕ) (ps : List PageChange) → bytes ≡ 4096 * n → Rises from n (map (λ (p : PageChange). p.page) ps) → AreIn bytes ps
pages-in bytes n from [] size h = All-nil (λ (p : PageChange). 4096 * p.page + 4096 ≤ bytes)
pages-in bytes n from (p ∷ ps) size h =
    let low : p.page + 1 ≤ n = rises-end (p.page + 1) n (map (λ (q : PageChange). q.page) ps) h.1 in
    All-cons (λ (p : PageChange). 4096 * p.page + 4096 ≤ bytes) p ps (omega (arith, size, low)) (pages-in bytes n (p.page + 1) ps size h.1)

-- ---- the checkpoint

abbrev pub full_change : Shape → State → ℕ → Change
full_change shape m g =
    let ram = m.guest.ram in
    let pages = changed_pages (zeros ram) ram shape.pages in
    change_of 2 shape g 0 (state_of m.guest) pages (changed_blocks (zeros ram) ram pages)
    (changed_sectors m.guest.sectors (used_sectors m.guest.sectors shape.sectors)) []

pub full-cut : (shape : Shape) (m : State) (g : ℕ) → length m.guest.ram ≡ 4096 * shape.pages → length m.guest.sectors ≡ 512 * shape.sectors
    → IsFullCut m g (full_change shape m g)
full-cut shape m g pages sectors =
    let count : shape.sectors ≡ sector_count m.guest.sectors = omega (arith, sectors) in
    record {
      version = refl;
      pages_size = pages;
      sectors_size = sectors;
      generation = refl;
      number = refl;
      state = refl;
      pages = refl;
      blocks = refl;
      sectors = ap (λ n. changed_sectors m.guest.sectors (used_sectors m.guest.sectors n)) count;
      frames = refl;
    }

pub full-widths : (shape : Shape) (m : State) (g : ℕ) → HasWidths (blank shape m.guest g)
    → All (λ (p : PageChange). p.mask < 2 ^ 64) (full_change shape m g).pages → All (λ (b : List ℕ). length b ≡ 64) (full_change shape m g).blocks
    → All (λ (s : SectorChange). length s.bytes ≡ 512) (full_change shape m g).sectors → HasWidths (full_change shape m g)
full-widths shape m g h masks blocks sectors =
    record { state = h.state; registers = h.registers; masks = masks; blocks = blocks; sectors = sectors }

-- how long the records of pages are
pub four-bytes : (n : ℕ) → length (bytes_of Four n) ≡ 4
unfolding bytes_of
four-bytes n = refl

eight-bytes : (n : ℕ) → length (bytes_of Eight n) ≡ 8
unfolding bytes_of
eight-bytes n = refl

records-length : OnesAreNamed → OwnAreRecorded → (ram : List ℕ) (ps : List PageChange) → All (λ (p : PageChange). p.mask < 2 ^ 64) ps
    → AreIn (length ram) ps → length (records ram ps) ≡ records_size ps
unfolding records
records-length ones own ram [] fits within = refl
records-length ones own ram (p ∷ ps) fits within =
    let here = All-head (λ (p : PageChange). 4096 * p.page + 4096 ≤ length ram) p ps within in
    let fit = All-head (λ (p : PageChange). p.mask < 2 ^ 64) p ps fits in
    let blocks = joined (changed_blocks (zeros ram) ram (p ∷ [])) in
    omega (
      arith,
      length-append (bytes_of Four p.page ++ bytes_of Eight p.mask ++ blocks) (records ram ps),
      length-append (bytes_of Four p.page ++ bytes_of Eight p.mask) blocks,
      length-append (bytes_of Four p.page) (bytes_of Eight p.mask),
      four-bytes p.page,
      eight-bytes p.mask,
      ap (λ bs. length (joined bs)) (sym (own ram p here)),
      blocks-length ones _ p.mask fit (length-page ram p.page here),
      sum_by-cons record_size p ps,
      records-length ones own ram ps (All-tail (λ (p : PageChange). p.mask < 2 ^ 64) p ps fits)
          (All-tail (λ (p : PageChange). 4096 * p.page + 4096 ≤ length ram) p ps within),
    )

-- ---- the text

head-same : (shape : Shape) (m : State) (g : ℕ) → head_numbers (blank shape m.guest g) ≡ head_numbers (full_change shape m g)
unfolding head_numbers
head-same shape m g = refl

module _ (ones : OnesAreNamed) (own : OwnAreRecorded) (shape : Shape) (m : State) (g : ℕ) (f : Making) (kept : f.kept ≡ [])
    (pages : f.pages ≡ changed_pages (zeros m.guest.ram) m.guest.ram shape.pages)
    (masks : All (λ (p : PageChange). p.mask < 2 ^ 64) (changed_pages (zeros m.guest.ram) m.guest.ram shape.pages))
    (within : AreIn (length m.guest.ram) f.pages) where
  -- what is put of it at first, with the records that come later, is the text
  pub full-whole : HasParts → PageIsSpelled → (head count used : List ℕ) → f.made ≡ head ++ count
      → head ≡ joined (number_units head_table (head_numbers (blank shape m.guest g))) → count ≡ bytes_of Four (length f.pages)
      → used ≡ used_sectors m.guest.sectors shape.sectors
      → f.tail ≡ (bytes_of Four (length used) ++ joined (sector_units (changed_sectors m.guest.sectors used))) ++ bytes_of Four 0
      → whole m.guest.ram f ≡ text (full_change shape m g)
  full-whole parts spelled head count used made is_head is_count is_used tail =
      let ram = m.guest.ram in
      let long : length used ≡ length (changed_sectors m.guest.sectors (used_sectors m.guest.sectors shape.sectors)) =
      ap (λ (l : List ℕ). length l) is_used ∙ sym (length-map (used_sectors m.guest.sectors shape.sectors) (sector_change m.guest.sectors)) in
      (λ i. made i ++ (page_records (page_at ram (kept i)) f.pages ++ f.tail))
      ∙ ap (λ l. (head ++ count) ++ (l ++ f.tail)) (records-plain own ram f.pages within)
      ∙ (λ i. (head ++ count) ++ (records ram (pages i) ++ f.tail))
      ∙ text-whole parts ones spelled (full_change shape m g) ram head count f.tail refl refl masks refl
      (is_head ∙ ap (λ ns. joined (number_units head_table ns)) (head-same shape m g))
      (is_count ∙ ap (λ (l : List PageChange). bytes_of Four (length l)) pages)
      (tail ∙ (λ i. (bytes_of Four (long i) ++ joined (sector_units (changed_sectors m.guest.sectors (is_used i)))) ++ bytes_of Four 0))

  pub full-size : length (whole m.guest.ram f) ≡ length f.made + (records_size f.pages + length f.tail)
  full-size =
      let ram = m.guest.ram in
      let fits = subst (All (λ (p : PageChange). p.mask < 2 ^ 64)) (sym pages) masks in
      omega (
        arith,
        length-append f.made (page_records (page_at ram f.kept) f.pages ++ f.tail),
        length-append (page_records (page_at ram f.kept) f.pages) f.tail,
        ap (λ (k : List (Option (List ℕ))). length (page_records (page_at ram k) f.pages)) kept,
        ap (λ (l : List ℕ). length l) (records-plain own ram f.pages within),
        records-length ones own ram f.pages fits within,
      )

pub full-text : (shape : Shape) (m : State) (g : ℕ) (t : List ℕ) → IsFullCut m g (full_change shape m g) → t ≡ text (full_change shape m g)
    → ((base : Guest) → image_of (full_change shape m g) base ≡ m.guest) → ReadsBack (full_change shape m g) (text (full_change shape m g))
    → length (text (full_change shape m g)) ≤ most_text shape → IsFullText m g t
full-text shape m g t cut e image reads short = record {
  change = full_change shape m g;
  cut = cut;
  image = image;
  reads = subst (ReadsBack (full_change shape m g)) (sym e) reads;
  short = subst (λ (l : List ℕ). length l ≤ most_text shape) (sym e) short;
}
