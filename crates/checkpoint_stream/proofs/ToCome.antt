-- The units that are still to come at each place, by the whole reading that comes of them: each unit is the first of them.
use Rattle.std.proofs.Common.{◌≡◌, ℕ, suc, zero, ◌+◌, ◌-◌, ◌<◌, ◌==◌, List, [], ◌∷◌, ◌++◌, length, take, drop, Bool, true, false, All}
use Rattle.std.proofs.Common.{refl, sym, ◌∙◌, ap, subst, arith, append_assoc, count_ones, if◌then◌else◌, length-append, get_or, slice_index}
use Rattle.std.proofs.{Math.Seq.drop-append_seam, lemmas.{Bool.Decides.nat_tests, Nat.zero_from_ones, List.{drop_more, drop_all}}}
use Rattle.std.proofs.lemmas.List.{get_or_append_left}
use Rattle.arrayvec.specs.ArrayVec.{ArrayVec}
use Rattle.epoch_snapshot.specs.declared.changes.{PageChange.PageChange, SectorChange.SectorChange}
use Rattle.checkpoint_stream.specs.declared.rules.{Row.Row, Width.TheVariants.{Four, Eight}, Rule.TheVariants.Magic}
use Rattle.checkpoint_stream.specs.declared.place.Place.{Place, TheVariants.{Head, PageCount, PageIndex, PageMask, Block, SectorCount}}
use Rattle.checkpoint_stream.specs.declared.place.Place.TheVariants.{SectorIndex, SectorBytes, FrameCount, FrameLength, FrameBytes, Whole}
use Rattle.checkpoint_stream.specs.{declared.place.Place.TheVariants.Failed}
use Rattle.checkpoint_stream.specs.{HeadTable.{head_table, row_at, bytes_of, number_spelled, number}}
use Rattle.checkpoint_stream.specs.Readings.{Reading, moved_if, kept_number, kept_mask, kept_block, kept_sector, frame_judged, judged_at}
use Rattle.checkpoint_stream.specs.Readings.{pages_due, sectors_due, frames_due, after_number, after_sectors, is_closed, width_at}
use Rattle.checkpoint_stream.specs.Readings.{has_frames}
use Rattle.checkpoint_stream.specs.{Sound.{IsHead, StandsAt}, Taken.Extends}
use Rattle.checkpoint_stream.specs.Text.{number_units, page_units, sector_units, frame_units}
use Rattle.checkpoint_stream.proofs.{Numbers.{IsByte, eq-true, length-head_table, limit_of, bytes-back, number-small}, HeadBack.Narrow}

-- of a whole reading what isn't read yet: the rows of the head's table that are left, the numbers, the records and the frames; and whether
-- it is of version 2
pub record Left : Type 0 where
  pub rows : List Row
  pub numbers : List ℕ
  pub pages : List PageChange
  pub blocks : List (List ℕ)
  pub sectors : List SectorChange
  pub frames : List (ArrayVec ℕ)
  pub new : Bool

-- of the whole reading `f`, at `r`
abbrev pub left_of : Reading → Reading → Left
left_of r f = record {
  rows = drop (length r.head) head_table;
  numbers = drop (length r.head) f.head;
  pages = drop (length r.pages) f.pages;
  blocks = drop (length r.blocks) f.blocks;
  sectors = drop (length r.sectors) f.sectors;
  frames = drop (length r.frames) f.frames;
  new = slice_index f.head 0 == 0x32434d52;
}

-- the units after the sector records, after the page records, and after the head
abbrev pub ending : Bool → Left → List (List ℕ)
ending new l = if new then bytes_of Four (length l.frames) ∷ frame_units l.frames else []

abbrev pub after_pages : Left → List (List ℕ)
after_pages l = (bytes_of Four (length l.sectors) ∷ sector_units l.sectors) ++ ending l.new l

abbrev pub after_head : Left → List (List ℕ)
after_head l = (bytes_of Four (length l.pages) ∷ page_units l.pages l.blocks) ++ after_pages l

-- the units from each place on. Of a record whose index was read, or a frame whose length was, one less is to come
abbrev pub to_come : Place → Left → List (List ℕ)
to_come Head l = number_units l.rows l.numbers ++ after_head l
to_come PageCount l = after_head l
to_come (PageIndex left from) l = page_units l.pages l.blocks ++ after_pages l
to_come (PageMask left page) l = drop 1 (page_units l.pages l.blocks) ++ after_pages l
to_come (Block left page more) l =
    (take (suc more) l.blocks ++ page_units l.pages (drop (suc more) l.blocks)) ++ after_pages l
to_come SectorCount l = after_pages l
to_come (SectorIndex left from) l = sector_units l.sectors ++ ending l.new l
to_come (SectorBytes left sector) l = drop 1 (sector_units l.sectors) ++ ending l.new l
to_come FrameCount l = ending true l
to_come (FrameLength left) l = frame_units l.frames
to_come (FrameBytes left len) l = drop 1 (frame_units l.frames)
to_come Whole l = []
to_come (Failed at) l = []

-- the first record that is left, or frame, has this index, or this length
abbrev pub FirstPage : ℕ → List PageChange → Type 0
FirstPage page [] = ⊥
FirstPage page (p ∷ ps) = p.page ≡ page

abbrev pub FirstSector : ℕ → List SectorChange → Type 0
FirstSector sector [] = ⊥
FirstSector sector (s ∷ ss) = s.sector ≡ sector

abbrev pub FirstFrame : ℕ → List (ArrayVec ℕ) → Type 0
FirstFrame len [] = ⊥
FirstFrame len (g ∷ gs) = length g.items ≡ len

-- how many records and frames are left at each place, and that each number of the head is as wide as its row
abbrev pub LeftAt : Place → Left → Type 0
LeftAt Head l = Narrow l.rows l.numbers
LeftAt PageCount l = Unit {0}
LeftAt (PageIndex left from) l = length l.pages ≡ left + 1
LeftAt (PageMask left page) l = (length l.pages ≡ left + 1) × FirstPage page l.pages
LeftAt (Block left page more) l = length l.pages ≡ left
LeftAt SectorCount l = l.pages ≡ []
LeftAt (SectorIndex left from) l = (l.pages ≡ []) × (length l.sectors ≡ left + 1)
LeftAt (SectorBytes left sector) l = (l.pages ≡ []) × (length l.sectors ≡ left + 1) × FirstSector sector l.sectors
LeftAt FrameCount l = (l.pages ≡ []) × (l.sectors ≡ [])
LeftAt (FrameLength left) l = (l.pages ≡ []) × (l.sectors ≡ []) × (length l.frames ≡ left + 1)
LeftAt (FrameBytes left len) l =
    (l.pages ≡ []) × (l.sectors ≡ []) × (length l.frames ≡ left + 1) × FirstFrame len l.frames
LeftAt Whole l = (l.pages ≡ []) × (l.sectors ≡ []) × (l.frames ≡ [])
LeftAt (Failed at) l = ⊥

-- the unit was the first of those that were to come at this place
pub record IsFirst (p : Place) (r next f : Reading) (unit : List ℕ) : Type 0 where
  pub left : LeftAt p (left_of r f)
  pub units : to_come p (left_of r f) ≡ unit ∷ to_come next.place (left_of next f)

joined-by : (a b : List ℕ) (us vs : List (List ℕ)) → a ≡ b → us ≡ vs → a ∷ us ≡ b ∷ vs
joined-by a b us vs e f = cc

-- one more of a list was read
one-read : {X : Type 0} (old more all : List X) (x : X) → all ≡ (old ++ x ∷ []) ++ more →
    drop (length old) all ≡ x ∷ drop (length (old ++ x ∷ [])) all
one-read old more all x e =
    ap (drop (length old)) (e ∙ append_assoc old (x ∷ []) more) ∙ drop-append_seam old (x ∷ more)
    ∙ ap (λ l. x ∷ l) (sym (ap (drop (length (old ++ x ∷ []))) e ∙ drop-append_seam (old ++ x ∷ []) more))

-- what comes where so many page records, sector records or frames are due
record AtPages (p : Place) (l : Left) (left : ℕ) : Type 0 where
  count : length l.pages ≡ left
  units : to_come p l ≡ page_units l.pages l.blocks ++ after_pages l

pages_due-first : (l : Left) (left from : ℕ) → LeftAt (pages_due left from) l → AtPages (pages_due left from) l left
unfolding page_units
pages_due-first l zero from h = record {
  count = ap length h;
  units = sym (ap (λ (ps : List PageChange). page_units ps l.blocks ++ after_pages l) h);
}
pages_due-first l (suc left) from h = record { count = omega (arith, h); units = refl }

record AtSectors (p : Place) (l : Left) (left : ℕ) : Type 0 where
  pages : l.pages ≡ []
  count : length l.sectors ≡ left
  units : to_come p l ≡ sector_units l.sectors ++ ending l.new l

none-left : (l : Left) (new : Bool) → l.sectors ≡ [] → l.new ≡ new → ending new l ≡ sector_units l.sectors ++ ending l.new l
unfolding sector_units
none-left l new none e = sym (ap (λ (ss : List SectorChange). sector_units ss ++ ending l.new l) none ∙ ap (λ (b : Bool). ending b l) e)

sectors_due-first : (l : Left) (new : Bool) (left from : ℕ) → l.new ≡ new →
    LeftAt (sectors_due (if new then FrameCount else Whole) left from) l →
    AtSectors (sectors_due (if new then FrameCount else Whole) left from) l left
sectors_due-first l true zero from e h = record { pages = h.0; count = ap length h.1; units = none-left l true h.1 e }
sectors_due-first l false zero from e h = record { pages = h.0; count = ap length h.1; units = none-left l false h.1 e }
sectors_due-first l new (suc left) from e h = record { pages = h.0; count = omega (arith, h.1); units = refl }

record AtFrames (p : Place) (l : Left) (left : ℕ) : Type 0 where
  pages : l.pages ≡ []
  sectors : l.sectors ≡ []
  count : length l.frames ≡ left
  units : to_come p l ≡ frame_units l.frames

frames_due-first : (l : Left) (left : ℕ) → LeftAt (frames_due left) l → AtFrames (frames_due left) l left
unfolding frame_units
frames_due-first l zero h = record { pages = h.0; sectors = h.1; count = ap length h.2; units = sym (ap frame_units h.2) }
frames_due-first l (suc left) h = record { pages = h.0; sectors = h.1; count = omega (arith, h.2); units = refl }

-- an index or a length is that of the first record or frame that is left
page-first : (n : ℕ) (ps : List PageChange) (bs : List (List ℕ)) → FirstPage n ps →
    page_units ps bs ≡ bytes_of Four n ∷ drop 1 (page_units ps bs)
unfolding page_units
page-first n [] bs h = absurd h
page-first n (p ∷ ps) bs h = joined-by _ _ _ _ (ap (bytes_of Four) h) refl

sector-first : (n : ℕ) (ss : List SectorChange) → FirstSector n ss → sector_units ss ≡ bytes_of Four n ∷ drop 1 (sector_units ss)
unfolding sector_units
sector-first n [] h = absurd h
sector-first n (s ∷ ss) h = joined-by _ _ _ _ (ap (bytes_of Four) h) refl

frame-first : (n : ℕ) (gs : List (ArrayVec ℕ)) → FirstFrame n gs → frame_units gs ≡ bytes_of Four n ∷ drop 1 (frame_units gs)
unfolding frame_units
frame-first n [] h = absurd h
frame-first n (g ∷ gs) h = joined-by _ _ _ _ (ap (bytes_of Four) h) refl

-- a number of the head
record AtNumber (p : Place) (l : Left) : Type 0 where
  small : Narrow l.rows l.numbers
  units : to_come p l ≡ number_units l.rows l.numbers ++ after_head l

after_number-first : (l : Left) (known : ℕ) → (known ≡ 80 → l.rows ≡ []) → LeftAt (after_number known) l → AtNumber (after_number known) l
unfolding number_units
after_number-first l known none h =
    elim (known == 80) as (λ (b : Bool). (known == 80) ≡ b → LeftAt (if b then PageCount else Head) l →
    AtNumber (if b then PageCount else Head) l) [
      | true ↦ λ (e : (known == 80) ≡ true) (_ : Unit {0}). record {
        small = subst (λ (rows : List Row). Narrow rows l.numbers) (sym (none (eq-true known 80 e))) tt;
        units = sym (ap (λ (rows : List Row). number_units rows l.numbers ++ after_head l) (none (eq-true known 80 e)));
      }
      | false ↦ λ (_ : (known == 80) ≡ false) (s : Narrow l.rows l.numbers). record { small = s; units = refl }
    ] refl h

row-left : (r : Reading) (n : ℕ) → IsHead r → r.known < 80 →
    drop (length r.head) head_table ≡ row_at r.known ∷ drop (length (r.head ++ n ∷ [])) head_table
unfolding row_at
row-left r n h below =
    drop_more head_table (length r.head) (number Four Magic) (omega (arith, h.known, below, length-head_table))
    ∙ ap (λ (i : ℕ). get_or head_table i (number Four Magic) ∷ drop (length r.head + 1) head_table) h.known
    ∙ ap (λ (i : ℕ). row_at r.known ∷ drop i head_table) (sym (length-append r.head (n ∷ [])))

number-first : (b : Bool) (r f : Reading) (n : ℕ) (unit : List ℕ) → IsHead r → r.known < 80 →
    bytes_of (row_at r.known).width n ≡ unit → n < limit_of (row_at r.known).width →
    Extends (kept_number b r (row_at r.known) n) f →
    LeftAt (kept_number b r (row_at r.known) n).place (left_of (kept_number b r (row_at r.known) n) f) →
    IsFirst Head r (kept_number b r (row_at r.known) n) f unit
unfolding kept_number number_units
number-first false r f n unit h below spelled small extends left = absurd left
number-first true r f n unit h below spelled small extends left =
    let l : Left = left_of (kept_number true r (row_at r.known) n) f in
    let numbers : drop (length r.head) f.head ≡ n ∷ l.numbers = one-read r.head extends.head.0 f.head n extends.head.1 in
    let none : r.known + 1 ≡ 80 → l.rows ≡ []
    = λ (e : r.known + 1 ≡ 80). drop_all (length (r.head ++ n ∷ [])) head_table
    (omega (arith, length-head_table, length-append r.head (n ∷ []), h.known, e)) in
    let a : AtNumber (after_number (r.known + 1)) l = after_number-first l (r.known + 1) none left in
    record {
      left = subst (λ (rows : List Row). Narrow rows (drop (length r.head) f.head)) (sym (row-left r n h below))
          (subst (Narrow (row_at r.known ∷ l.rows)) (sym numbers) (small, a.small));
      units = ap (λ (rows : List Row). number_units rows (drop (length r.head) f.head) ++ after_head l) (row-left r n h below)
          ∙ ap (λ (ns : List ℕ). number_units (row_at r.known ∷ l.rows) ns ++ after_head l) numbers
          ∙ joined-by _ _ _ _ spelled (sym a.units);
    }

-- a count, an index or a length
moved_if-first : (b : Bool) (p : Place) (r f : Reading) (place : Place) (unit : List ℕ) →
    LeftAt (moved_if b r place).place (left_of (moved_if b r place) f) →
    (LeftAt place (left_of r f) → LeftAt p (left_of r f) × (to_come p (left_of r f) ≡ unit ∷ to_come place (left_of r f))) →
    IsFirst p r (moved_if b r place) f unit
unfolding moved_if
moved_if-first false p r f place unit left h = absurd left
moved_if-first true p r f place unit left h = record { left = (h left).0; units = (h left).1 }

-- a mask
some-ones : (n : ℕ) → (n == 0) ≡ false → count_ones n ≡ suc (count_ones n - 1)
some-ones n e = omega (arith, λ (z : count_ones n ≡ 0). not-zero n e (zero_from_ones n z))
  where
    not-zero : (n : ℕ) → (n == 0) ≡ false → n ≡ 0 → ⊥
    not-zero n e z = grind (arith, nat_tests)

mask-first : (b : Bool) (r f : Reading) (left page mask : ℕ) (unit : List ℕ) → (mask == 0) ≡ b → bytes_of Eight mask ≡ unit →
    Extends (kept_mask b r left page mask) f → LeftAt (kept_mask b r left page mask).place (left_of (kept_mask b r left page mask) f) →
    IsFirst (PageMask left page) r (kept_mask b r left page mask) f unit
unfolding kept_mask page_units
mask-first true r f left page mask unit is spelled extends h = absurd h
mask-first false r f left page mask unit is spelled extends h =
    let p : PageChange = record { page = page; mask = mask } in
    let l : Left = left_of (kept_mask false r left page mask) f in
    let pages : drop (length r.pages) f.pages ≡ p ∷ l.pages = one-read r.pages extends.pages.0 f.pages p extends.pages.1 in
    record {
      left = (omega (arith, ap length pages, h), subst (FirstPage page) (sym pages) refl);
      units = ap (λ (ps : List PageChange). drop 1 (page_units ps l.blocks) ++ after_pages l) pages
          ∙ joined-by _ _ _ _ spelled (ap (λ (k : ℕ). (take k l.blocks ++ page_units l.pages (drop k l.blocks)) ++ after_pages l)
          (some-ones mask is));
    }

-- a block
block-first : (b : Bool) (r f : Reading) (left page more : ℕ) (unit : List ℕ) → Extends (kept_block b r left page more unit) f →
    LeftAt (kept_block b r left page more unit).place (left_of (kept_block b r left page more unit) f) →
    IsFirst (Block left page more) r (kept_block b r left page more unit) f unit
unfolding kept_block
block-first true r f left page more unit extends h = absurd h
block-first false r f left page zero unit extends h =
    let l : Left = left_of (kept_block false r left page zero unit) f in
    let a : AtPages (pages_due left (page + 1)) l left = pages_due-first l left (page + 1) h in
    record {
      left = a.count;
      units = ap (λ (bs : List (List ℕ)). (take 1 bs ++ page_units l.pages (drop 1 bs)) ++ after_pages l)
          (one-read r.blocks extends.blocks.0 f.blocks unit extends.blocks.1) ∙ ap (λ (us : List (List ℕ)). unit ∷ us) (sym a.units);
    }
block-first false r f left page (suc more) unit extends h =
    let l : Left = left_of (kept_block false r left page (suc more) unit) f in
    record {
      left = h;
      units = ap (λ (bs : List (List ℕ)). (take (suc (suc more)) bs ++ page_units l.pages (drop (suc (suc more)) bs)) ++ after_pages l)
          (one-read r.blocks extends.blocks.0 f.blocks unit extends.blocks.1);
    }

-- a sector
sector-kept-first : (b : Bool) (r f : Reading) (left sector : ℕ) (unit : List ℕ) → (slice_index f.head 0 == 0x32434d52) ≡ has_frames r →
    Extends (kept_sector b r left sector unit) f →
    LeftAt (kept_sector b r left sector unit).place (left_of (kept_sector b r left sector unit) f) →
    IsFirst (SectorBytes left sector) r (kept_sector b r left sector unit) f unit
unfolding kept_sector sector_units
sector-kept-first true r f left sector unit new extends h = absurd h
sector-kept-first false r f left sector unit new extends h =
    let s : SectorChange = record { sector = sector; bytes = unit } in
    let l : Left = left_of (kept_sector false r left sector unit) f in
    let sectors : drop (length r.sectors) f.sectors ≡ s ∷ l.sectors
    = one-read r.sectors extends.sectors.0 f.sectors s extends.sectors.1 in
    let a : AtSectors (sectors_due (after_sectors r) left (sector + 1)) l left
    = sectors_due-first l (has_frames r) left (sector + 1) new h in
    record {
      left = (a.pages, omega (arith, ap length sectors, a.count), subst (FirstSector sector) (sym sectors) refl);
      units = ap (λ (ss : List SectorChange). drop 1 (sector_units ss) ++ ending l.new l) sectors
          ∙ ap (λ (us : List (List ℕ)). unit ∷ us) (sym a.units);
    }

-- a frame
frame-kept-first : (r f : Reading) (left len : ℕ) (unit : List ℕ) → length unit ≡ len → Extends (frame_judged r left len unit) f →
    LeftAt (frame_judged r left len unit).place (left_of (frame_judged r left len unit) f) →
    IsFirst (FrameBytes left len) r (frame_judged r left len unit) f unit
unfolding frame_judged frame_units
frame-kept-first r f left len unit wide extends h =
    let g : ArrayVec ℕ = record { items = unit } in
    let l : Left = left_of (frame_judged r left len unit) f in
    let frames : drop (length r.frames) f.frames ≡ g ∷ l.frames = one-read r.frames extends.frames.0 f.frames g extends.frames.1 in
    let a : AtFrames (frames_due left) l left = frames_due-first l left h in
    record {
      left = (a.pages, a.sectors, omega (arith, ap length frames, a.count), subst (FirstFrame len) (sym frames) wide);
      units = ap (λ (gs : List (ArrayVec ℕ)). drop 1 (frame_units gs)) frames ∙ ap (λ (us : List (List ℕ)). unit ∷ us) (sym a.units);
    }

-- the version, which the first number says
new-by : (r f : Reading) → IsHead r → r.known ≡ 80 → (more : List ℕ) → f.head ≡ r.head ++ more →
    (slice_index f.head 0 == 0x32434d52) ≡ has_frames r
new-by r f h known more e =
    ap (λ (n : ℕ). n == 0x32434d52) (ap (λ (l : List ℕ). get_or l 0 0) e
    ∙ get_or_append_left r.head more 0 0 (omega (arith, h.known, known))) ∙ rw known refl

pub judged_at-first : (p : Place) (r f : Reading) (unit : List ℕ) → is_closed p ≡ false → IsHead r → StandsAt p r → All IsByte unit →
    length unit ≡ width_at p r.known → (more : List ℕ) × (f.head ≡ r.head ++ more) → Extends (judged_at p r unit) f →
    LeftAt (judged_at p r unit).place (left_of (judged_at p r unit) f) → IsFirst p r (judged_at p r unit) f unit
judged_at-first Head r f unit going h s bytes wide begins extends l =
    number-first _ r f _ unit h s.0 (bytes-back (row_at r.known).width unit wide bytes) (number-small (row_at r.known).width unit bytes)
    extends l
judged_at-first PageCount r f unit going h s bytes wide begins extends l = moved_if-first _ PageCount r f _ unit l (λ l.
    let a : AtPages _ (left_of r f) (number_spelled Four unit) = pages_due-first (left_of r f) (number_spelled Four unit) 0 l in
    (tt, joined-by _ _ _ _ (ap (bytes_of Four) a.count ∙ bytes-back Four unit wide bytes) (sym a.units)))
judged_at-first (PageIndex left from) r f unit going h s bytes wide begins extends l =
    moved_if-first _ (PageIndex left from) r f _ unit l (λ l. (
      l.0,
      ap (λ (us : List (List ℕ)). us ++ after_pages (left_of r f))
          (page-first _ (left_of r f).pages (left_of r f).blocks l.1) ∙ joined-by _ _ _ _ (bytes-back Four unit wide bytes) refl,
    ))
judged_at-first (PageMask left page) r f unit going h s bytes wide begins extends l =
    mask-first _ r f left page _ unit refl (bytes-back Eight unit wide bytes) extends l
judged_at-first (Block left page more) r f unit going h s bytes wide begins extends l =
    block-first _ r f left page more unit extends l
judged_at-first SectorCount r f unit going h s bytes wide begins extends l = moved_if-first _ SectorCount r f _ unit l (λ l.
    let a : AtSectors _ (left_of r f) (number_spelled Four unit)
    = sectors_due-first (left_of r f) (has_frames r) (number_spelled Four unit) 0 (new-by r f h s.known begins.0 begins.1) l in
    (a.pages, joined-by _ _ _ _ (ap (bytes_of Four) a.count ∙ bytes-back Four unit wide bytes) (sym a.units)))
judged_at-first (SectorIndex left from) r f unit going h s bytes wide begins extends l =
    moved_if-first _ (SectorIndex left from) r f _ unit l (λ l. (
      (l.0, l.1),
      ap (λ (us : List (List ℕ)). us
          ++ ending (left_of r f).new (left_of r f)) (sector-first _ (left_of r f).sectors l.2)
          ∙ joined-by _ _ _ _ (bytes-back Four unit wide bytes) refl,
    ))
judged_at-first (SectorBytes left sector) r f unit going h s bytes wide begins extends l =
    sector-kept-first _ r f left sector unit (new-by r f h s.1.known begins.0 begins.1) extends l
judged_at-first FrameCount r f unit going h s bytes wide begins extends l = moved_if-first _ FrameCount r f _ unit l (λ l.
    let a : AtFrames _ (left_of r f) (number_spelled Four unit) = frames_due-first (left_of r f) (number_spelled Four unit) l in
    ((a.pages, a.sectors), joined-by _ _ _ _ (ap (bytes_of Four) a.count ∙ bytes-back Four unit wide bytes) (sym a.units)))
judged_at-first (FrameLength left) r f unit going h s bytes wide begins extends l =
    moved_if-first _ (FrameLength left) r f _ unit l (λ l. (
      (l.0, l.1, l.2),
      frame-first _ (left_of r f).frames l.3 ∙ joined-by _ _ _ _ (bytes-back Four unit wide bytes) refl,
    ))
judged_at-first (FrameBytes left len) r f unit going h s bytes wide begins extends l = frame-kept-first r f left len unit wide extends l
judged_at-first Whole r f unit going h s bytes wide begins extends l = cc
judged_at-first (Failed at) r f unit going h s bytes wide begins extends l = cc
