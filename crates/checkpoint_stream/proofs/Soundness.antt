-- Each unit leaves a sound reading sound.
use Rattle.std.proofs.Common.{◌≡◌, ◌≢◌, ℕ, suc, zero, ◌+◌, ◌-◌, ◌<◌, ◌≤◌, ◌==◌, ◌&&◌, not, IsTrue, List, [], ◌∷◌, ◌++◌, length, Bool, true}
use Rattle.std.proofs.Common.{false, refl, sym, ◌∙◌, ap, subst, arith, nat_le, nat_lt, get_or, count_ones, if◌then◌else◌, length-append}
use Rattle.std.proofs.{Common.{add-one, All, map, rules}, lemmas.{Bool.Decides.nat_tests, Nat.zero_from_ones, List.map-append}}
use Rattle.std.proofs.lemmas.List.{Elements.All-push, Sums.sum_by_push}
use Rattle.guest_rules.specs.{Dirty.Rises, declared.shapes.Shape.Shape}
use Rattle.epoch_snapshot.specs.{declared.changes.{PageChange.PageChange, SectorChange.SectorChange}, Blocks.is_zero}
use Rattle.epoch_snapshot.specs.Checkpoints.{block_count}
use Rattle.checkpoint_stream.specs.declared.{rules.{Row.Row, Width.TheVariants.Four, Rule.TheVariants.Magic}, place.Place.Place}
use Rattle.checkpoint_stream.specs.declared.place.Place.TheVariants.{Head, PageCount, PageIndex, PageMask, Block, SectorCount, SectorIndex}
use Rattle.checkpoint_stream.specs.declared.place.Place.TheVariants.{SectorBytes, FrameCount, FrameLength, FrameBytes, Whole, Failed}
use Rattle.checkpoint_stream.specs.{HeadTable.{head_table, row_at, passes, number_spelled, number}}
use Rattle.checkpoint_stream.specs.{Readings.{Reading, is_full, failed, moved}}
use Rattle.checkpoint_stream.specs.Readings.{pages_due, sectors_due, after_block, after_number, moved_if, has_frames, most_frames}
use Rattle.checkpoint_stream.specs.Readings.{frames_due, frame_judged, width_at, kept_number, kept_mask, kept_block, kept_sector, judged}
use Rattle.checkpoint_stream.specs.{Readings.{judged_at, is_closed, fed_byte, fed, begun, width_of}}
use Rattle.checkpoint_stream.specs.{Sound.{IsSound, IsHead, HasNoRecords, HoldsFew}}
use Rattle.checkpoint_stream.specs.Sound.{HasRecords, StandsAt, HasFrames, FramesAt, AllPass, last_after}
use Rattle.checkpoint_stream.proofs.{Holding.{keep-few, few-at}, Numbers.{eq-true, length-head_table}}
use Rattle.net_device.specs.Frames.{IsFrame}
use Rattle.arrayvec.specs.ArrayVec.{ArrayVec}

-- rising lists
Rises-higher : (from end higher : ℕ) (is : List ℕ) → end ≤ higher → Rises from end is → Rises from higher is
Rises-higher from end higher [] h r = omega (arith, h, r)
Rises-higher from end higher (i ∷ is) h r = (r.0, Rises-higher (i + 1) end higher is h r.1)

Rises-push : (from end n : ℕ) (is : List ℕ) → end ≤ n → Rises from end is → Rises from (n + 1) (is ++ n ∷ [])
Rises-push from end n [] h r = (omega (arith, h, r), omega arith)
Rises-push from end n (i ∷ is) h r = (r.0, Rises-push (i + 1) end n is h r.1)

-- the head's numbers
AllPass-push : (shape : Shape) (before : ℕ) (rows : List Row) (ns : List ℕ) (n : ℕ) (d : Row) → length ns < length rows →
    AllPass shape before rows ns →
    IsTrue (passes shape (get_or rows (length ns) d).rule (last_after before ns) n) → AllPass shape before rows (ns ++ n ∷ [])
AllPass-push shape before [] [] n d h all p = absurd (omega (arith, h))
AllPass-push shape before (row ∷ rows) [] n d h all p = (p, tt)
AllPass-push shape before [] (m ∷ ns) n d h all p = absurd all
AllPass-push shape before (row ∷ rows) (m ∷ ns) n d h all p = (all.0, AllPass-push shape m rows ns n d (omega (arith, h)) all.1 p)

last_after-push : (before : ℕ) (ns : List ℕ) (n : ℕ) → last_after before (ns ++ n ∷ []) ≡ n
last_after-push before [] n = refl
last_after-push before (m ∷ ns) n = last_after-push m ns n

-- what a place, an offset and records change of a reading leaves its head as it was
keep-head : (r : Reading) (offset : ℕ) (place : Place) (pages : List PageChange) (blocks : List (List ℕ))
    (sectors : List SectorChange) (frames : List (ArrayVec ℕ)) (partial : List ℕ) → IsHead r →
    IsHead (record r {
      offset = offset;
      place = place;
      pages = pages;
      blocks = blocks;
      sectors = sectors;
      frames = frames;
      partial = partial;
    })
keep-head r offset place pages blocks sectors frames partial h = record { known = h.known; rows = h.rows; passes = h.passes; last = h.last }

keep-records : (r : Reading) (offset : ℕ) (place : Place) (frames : List (ArrayVec ℕ)) (partial : List ℕ) (end due sector_end : ℕ) →
    HasRecords r end due sector_end →
    HasRecords (record r { offset = offset; place = place; frames = frames; partial = partial }) end due sector_end
keep-records r offset place frames partial end due sector_end h = search rules

-- what stands at a place
record IsAt (p : Place) (r : Reading) : Type 0 where
  stands : StandsAt p r
  frames : FramesAt p r

-- the head, the records and the frames of what was read
record IsRead (r : Reading) : Type 0 where
  head : IsHead r
  at : IsAt r.place r

failed-read : (r : Reading) → IsHead r → HoldsFew r → IsRead (failed r)
failed-read r h few = record { head = keep-head r _ _ _ _ _ _ _ h; at = record { stands = keep-few r _ _ few; frames = tt } }

both-true : (a b : Bool) → (a && b) ≡ true → (a ≡ true) × (b ≡ true)
both-true true b e = (refl, e)
both-true false b e = cc

le-true : (m n : ℕ) → nat_le m n ≡ true → m ≤ n
le-true m n e = grind (arith, nat_tests)

lt-true : (m n : ℕ) → nat_lt m n ≡ true → m < n
lt-true m n e = grind (arith, nat_tests)

eq-false : (m n : ℕ) → (m == n) ≡ false → m ≢ n
eq-false m n e = grind (arith, nat_tests)

-- a number of the head
at-after_number : (r : Reading) (k : ℕ) → r.known ≡ k → k ≤ 80 → HasNoRecords r → r.frames ≡ [] → IsAt (after_number k) r
at-after_number r k e within none no_frames =
    elim (k == 80) as (λ (b : Bool). (k == 80) ≡ b → IsAt (if b then PageCount else Head) r) [
      | true ↦ λ (is : (k == 80) ≡ true). record { stands = (e ∙ eq-true k 80 is, none); frames = no_frames }
      | false ↦ λ (is : (k == 80) ≡ false). record {
        stands = (omega (arith, e, within, eq-false k 80 is), none);
        frames = no_frames;
      }
    ] refl

number-kept : (r : Reading) (n offset : ℕ) (place : Place) → IsHead r → r.known < 80 →
    passes r.shape (row_at r.known).rule r.before n ≡ true →
    IsHead (record r { offset = offset; place = place; known = r.known + 1; head = r.head ++ n ∷ []; before = n; partial = [] })
unfolding row_at
number-kept r n offset place h k p = record {
  known = length-append r.head (n ∷ []) ∙ ap (λ (l : ℕ). l + 1) h.known;
  rows = omega arith;
  passes = AllPass-push r.shape 0 head_table r.head n (number Four Magic) (omega (arith, h.known, length-head_table)) h.passes
      (rw (h.known, ← h.last) p);
  last = sym (last_after-push 0 r.head n);
}

number-read : (b : Bool) (r : Reading) (n : ℕ) → IsHead r → HoldsFew r → HasNoRecords r → r.frames ≡ [] → r.known < 80 →
    passes r.shape (row_at r.known).rule r.before n ≡ b → IsRead (kept_number b r (row_at r.known) n)
unfolding kept_number
number-read false r n h few none no_frames k p = failed-read r h few
number-read true r n h few none no_frames k p = record {
  head = number-kept r n _ _ h k p;
  at = at-after_number _ (r.known + 1) refl (omega arith)
      (record { pages = none.pages; blocks = none.blocks; sectors = none.sectors }) no_frames;
}

moved_if-read : (b : Bool) (r : Reading) (place : Place) → IsHead r → HoldsFew r → (b ≡ true → IsAt place (moved r 4 place)) →
    IsRead (moved_if b r place)
unfolding moved_if
moved_if-read false r place h few f = failed-read r h few
moved_if-read true r place h few f = record { head = keep-head r _ _ _ _ _ _ _ h; at = f refl }

All-nothing : {X : Type 0} (P : X → Type 0) (xs : List X) → xs ≡ [] → All P xs
All-nothing P xs e = λ k d h. absurd (omega (arith, h, ap length e))

-- no records are records
no-records : (r : Reading) → r.known ≡ 80 → HasNoRecords r → HasRecords r 0 0 0
no-records r known none = record {
  known = known;
  pages = rw none.pages (omega arith);
  page_end = omega arith;
  masks = All-nothing (λ (p : PageChange). p.mask ≢ 0) r.pages none.pages;
  count = rw (none.blocks, none.pages) refl;
  blocks = All-nothing (λ (b : List ℕ). IsTrue (not (is_zero b))) r.blocks none.blocks;
  sectors = rw none.sectors (omega arith);
  sector_end = omega arith;
  full = λ _. All-nothing (λ (s : SectorChange). IsTrue (not (is_zero s.bytes))) r.sectors none.sectors;
}

higher-pages : (r : Reading) (end higher due sector_end : ℕ) → end ≤ higher → higher ≤ r.shape.pages →
    HasRecords r end due sector_end → HasRecords r higher due sector_end
higher-pages r end higher due sector_end le top h =
    let pages : Rises 0 higher (map (λ (p : PageChange). p.page) r.pages) = Rises-higher 0 end higher _ le h.pages in
    search rules

higher-sectors : (r : Reading) (page_end due end higher : ℕ) → end ≤ higher → higher ≤ r.shape.sectors →
    HasRecords r page_end due end → HasRecords r page_end due higher
higher-sectors r page_end due end higher le top h =
    let sectors : Rises 0 higher (map (λ (s : SectorChange). s.sector) r.sectors) = Rises-higher 0 end higher _ le h.sectors in
    search rules

at-pages_due : (r : Reading) (left from : ℕ) → HasRecords r from 0 0 → r.frames ≡ [] → IsAt (pages_due left from) r
at-pages_due r zero from h none = record { stands = higher-pages r from r.shape.pages 0 0 h.page_end (omega arith) h; frames = none }
at-pages_due r (suc left) from h none = record { stands = h; frames = none }

-- the frames of none
no-frames : (r : Reading) → r.frames ≡ [] → HasFrames r 0
no-frames r none = record {
  each = All-nothing IsFrame r.frames none;
  count = omega (arith, ap length none);
  full = λ _. omega (arith, ap length none);
  old = λ _. omega (arith, ap length none);
}

at-end : (r : Reading) (carries : Bool) → has_frames r ≡ carries → HasRecords r r.shape.pages 0 r.shape.sectors → r.frames ≡ [] →
    IsAt (if carries then FrameCount else Whole) r
at-end r true is h none = record { stands = h; frames = (is, none) }
at-end r false is h none = record { stands = h; frames = no-frames r none }

at-sectors_due : (r : Reading) (carries : Bool) (left from : ℕ) → has_frames r ≡ carries → HasRecords r r.shape.pages 0 from →
    r.frames ≡ [] → IsAt (sectors_due (if carries then FrameCount else Whole) left from) r
at-sectors_due r carries zero from is h none =
    at-end r carries is (higher-sectors r r.shape.pages 0 from r.shape.sectors h.sector_end (omega arith) h) none
at-sectors_due r carries (suc left) from is h none = record { stands = h; frames = none }

at-frames_due : (r : Reading) (left : ℕ) → HasRecords r r.shape.pages 0 r.shape.sectors → HasFrames r left → IsAt (frames_due left) r
at-frames_due r zero h f = record { stands = h; frames = f }
at-frames_due r (suc left) h f = record { stands = h; frames = subst (HasFrames r) (sym (add-one left)) f }

mask-records : (r : Reading) (left page mask : ℕ) → page < r.shape.pages → HasRecords r page 0 0 → (mask == 0) ≡ false →
    HasRecords (moved (record r {
      pages = r.pages
          ++ (record { page = page; mask = mask }) ∷ [];
    }) 8 (Block left page (count_ones mask - 1))) (page + 1) (count_ones mask - 1 + 1) 0
mask-records r left page mask top h is =
    let some : mask ≢ 0 = eq-false mask 0 is in
    let ones : count_ones mask ≢ 0 = λ (e : count_ones mask ≡ 0). some (zero_from_ones mask e) in
    record {
      known = h.known;
      pages = rw (map-append (λ (p : PageChange). p.page) r.pages _) (Rises-push 0 page page _ (omega arith) h.pages);
      page_end = omega arith;
      masks = All-push (λ (p : PageChange). p.mask ≢ 0) r.pages _ h.masks some;
      count = omega (
        arith,
        h.count,
        ones,
        sum_by_push (λ (p : PageChange). count_ones p.mask) r.pages
            (record { page = page; mask = mask }),
      );
      blocks = h.blocks;
      sectors = h.sectors;
      sector_end = h.sector_end;
      full = h.full;
    }

-- a mask
mask-read : (b : Bool) (r : Reading) (left page mask : ℕ) → IsHead r → HoldsFew r → page < r.shape.pages → HasRecords r page 0 0 →
    r.frames ≡ [] → (mask == 0) ≡ b → IsRead (kept_mask b r left page mask)
unfolding kept_mask
mask-read true r left page mask h few top records none is = failed-read r h few
mask-read false r left page mask h few top records none is = record {
  head = keep-head r _ _ _ _ _ _ _ h;
  at = record { stands = (top, mask-records r left page mask top records is); frames = none };
}

not-zero : {b : Bool} → b ≡ false → IsTrue (not b)
not-zero e = rw e

-- a block
block-records : (r : Reading) (end due sector_end : ℕ) (block : List ℕ) → is_zero block ≡ false → HasRecords r end (due + 1) sector_end →
    HasRecords (record r { blocks = r.blocks ++ block ∷ [] }) end due sector_end
block-records r end due sector_end block is h =
    let count : length (r.blocks ++ block ∷ []) + due ≡ block_count r.pages
    = omega (arith, h.count, length-append r.blocks (block ∷ [])) in
    let blocks = All-push (λ (b : List ℕ). IsTrue (not (is_zero b))) r.blocks block h.blocks (not-zero is) in
    search rules

at-after_block : (r : Reading) (left page more : ℕ) → page < r.shape.pages → HasRecords r (page + 1) more 0 → r.frames ≡ [] →
    IsAt (after_block left page more) r
at-after_block r left page zero top h none = at-pages_due r left (page + 1) h none
at-after_block r left page (suc more) top h none = record {
  stands = (top, subst (λ (due : ℕ). HasRecords r (page + 1) due 0) (sym (add-one more)) h);
  frames = none;
}

block-read : (b : Bool) (r : Reading) (left page more : ℕ) (block : List ℕ) → IsHead r → HoldsFew r → page < r.shape.pages →
    HasRecords r (page + 1) (more + 1) 0 → r.frames ≡ [] → is_zero block ≡ b → IsRead (kept_block b r left page more block)
unfolding kept_block
block-read true r left page more block h few top records none is = failed-read r h few
block-read false r left page more block h few top records none is = record {
  head = keep-head r _ _ _ _ _ _ _ h;
  at = at-after_block _ left page more top (keep-records _ _ _ _ _ _ _ _ (block-records r (page + 1) more 0 block is records)) none;
}

zero-when-full : (r : Reading) (bytes : List ℕ) → r.known ≡ 80 → get_or r.head 4 0 ≡ 0 → (is_full r && is_zero bytes) ≡ false →
    is_zero bytes ≡ false
zero-when-full r bytes known first is = rw (known, first) at is

-- a sector
sector-records : (r : Reading) (sector : ℕ) (bytes : List ℕ) → sector < r.shape.sectors → (is_full r && is_zero bytes) ≡ false →
    HasRecords r r.shape.pages 0 sector →
    HasRecords (record r { sectors = r.sectors ++ (record { sector = sector; bytes = bytes }) ∷ [] }) r.shape.pages 0 (sector + 1)
sector-records r sector bytes top is h = record {
  known = h.known;
  pages = h.pages;
  page_end = h.page_end;
  masks = h.masks;
  count = h.count;
  blocks = h.blocks;
  sectors = rw (map-append (λ (s : SectorChange). s.sector) r.sectors _) (Rises-push 0 sector sector _ (omega arith) h.sectors);
  sector_end = omega arith;
  full = λ (e : get_or r.head 4 0 ≡ 0). All-push (λ (s : SectorChange). IsTrue (not (is_zero s.bytes))) r.sectors _ (h.full e)
      (not-zero (zero-when-full r bytes h.known e is));
}

sector-read : (b : Bool) (r : Reading) (left sector : ℕ) (bytes : List ℕ) → IsHead r → HoldsFew r → sector < r.shape.sectors →
    HasRecords r r.shape.pages 0 sector → r.frames ≡ [] → (is_full r && is_zero bytes) ≡ b → IsRead (kept_sector b r left sector bytes)
unfolding kept_sector
sector-read true r left sector bytes h few top records none is = failed-read r h few
sector-read false r left sector bytes h few top records none is = record {
  head = keep-head r _ _ _ _ _ _ _ h;
  at = at-sectors_due _ (has_frames r) left (sector + 1) refl
      (keep-records _ _ _ _ _ _ _ _ (sector-records r sector bytes top is records)) none;
}

keep-frames : (r : Reading) (offset : ℕ) (place : Place) (partial : List ℕ) (due : ℕ) → HasFrames r due →
    HasFrames (record r { offset = offset; place = place; partial = partial }) due
keep-frames r offset place partial due h = record { each = h.each; count = h.count; full = h.full; old = h.old }

-- as many frames as a checkpoint may carry
most : (full : Bool) (n : ℕ) → n ≤ (if full then 0 else 256) → (n ≤ 256) × (full ≡ true → n ≡ 0)
most true n h = (omega (arith, h), λ _. omega (arith, h))
most false n h = (h, λ (e : false ≡ true). cc)

frame_count-frames : (r : Reading) (n : ℕ) → has_frames r ≡ true → r.frames ≡ [] → n ≤ most_frames r → HasFrames r n
frame_count-frames r n carries none few =
    let limit : (n ≤ 256) × (is_full r ≡ true → n ≡ 0) = most (is_full r) n few in
    record {
      each = All-nothing IsFrame r.frames none;
      count = omega (arith, ap length none, limit.0);
      full = λ (e : is_full r ≡ true). omega (arith, ap length none, limit.1 e);
      old = λ (e : has_frames r ≡ false). absurd (other (sym carries ∙ e));
    }
  where
    other : true ≡ false → ⊥
    other e = cc

-- a frame
frame-read : (r : Reading) (left len : ℕ) (frame : List ℕ) → IsHead r → HasRecords r r.shape.pages 0 r.shape.sectors →
    (14 ≤ len) × (len ≤ 1514) → HasFrames r (left + 1) → length frame ≡ len → IsRead (frame_judged r left len frame)
unfolding frame_judged
frame-read r left len frame h records within f wide = record {
  head = keep-head r _ _ _ _ _ _ _ h;
  at = at-frames_due _ left (keep-records r _ _ _ _ _ _ _ records) (record {
    each = All-push IsFrame r.frames _ f.each (omega (arith, within.0, wide), omega (arith, within.1, wide));
    count = omega (arith, f.count, length-append r.frames ((record { items = frame }) ∷ []));
    full = λ e. absurd (omega (arith, f.full e));
    old = λ e. absurd (omega (arith, f.old e));
  });
}

closed-read : (r : Reading) (p : Place) → r.place ≡ p → IsHead r → StandsAt p r → FramesAt p r → IsRead r
closed-read r p at h s f = record {
  head = h;
  at = subst (λ (q : Place). IsAt q r) (sym at) (record { stands = s; frames = f });
}

judged_at-read : (p : Place) (r : Reading) (unit : List ℕ) → r.place ≡ p → IsHead r → HoldsFew r → StandsAt p r → FramesAt p r →
    length unit ≡ width_at p r.known → IsRead (judged_at p r unit)
judged_at-read Head r unit at h few s f wide = number-read _ r _ h few s.1 f s.0 refl
judged_at-read PageCount r unit at h few s f wide = moved_if-read _ r _ h few (λ e.
    at-pages_due _ _ 0 (keep-records r _ _ _ _ _ 0 0 (no-records r s.0 s.1)) f)
judged_at-read (PageIndex left from) r unit at h few s f wide = moved_if-read _ r _ h few (λ e.
    let tests : (nat_le from (number_spelled Four unit) ≡ true) × (nat_lt (number_spelled Four unit) r.shape.pages ≡ true)
    = both-true _ _ e in
    let below : number_spelled Four unit < r.shape.pages = lt-true _ _ tests.1 in
    record {
      stands = (
        below,
        keep-records r _ _ _ _ _ 0 0
            (higher-pages r from (number_spelled Four unit) 0 0 (le-true _ _ tests.0) (omega arith) s),
      );
      frames = f;
    })
judged_at-read (PageMask left page) r unit at h few s f wide = mask-read _ r left page _ h few s.0 s.1 f refl
judged_at-read (Block left page more) r unit at h few s f wide = block-read _ r left page more unit h few s.0 s.1 f refl
judged_at-read SectorCount r unit at h few s f wide =
    moved_if-read _ r _ h few (λ e. at-sectors_due _ (has_frames r) _ 0 refl (keep-records r _ _ _ _ _ 0 0 s) f)
judged_at-read (SectorIndex left from) r unit at h few s f wide = moved_if-read _ r _ h few (λ e.
    let tests : (nat_le from (number_spelled Four unit) ≡ true) × (nat_lt (number_spelled Four unit) r.shape.sectors ≡ true)
    = both-true _ _ e in
    let below : number_spelled Four unit < r.shape.sectors = lt-true _ _ tests.1 in
    record {
      stands = (
        below,
        keep-records r _ _ _ _ _ 0 _
            (higher-sectors r r.shape.pages 0 from (number_spelled Four unit) (le-true _ _ tests.0) (omega arith) s),
      );
      frames = f;
    })
judged_at-read (SectorBytes left sector) r unit at h few s f wide = sector-read _ r left sector unit h few s.0 s.1 f refl
judged_at-read FrameCount r unit at h few s f wide = moved_if-read _ r _ h few (λ e.
    at-frames_due _ (number_spelled Four unit) (keep-records r _ _ _ _ _ _ _ s)
    (keep-frames r _ _ _ _ (frame_count-frames r (number_spelled Four unit) f.0 f.1 (le-true _ _ e))))
judged_at-read (FrameLength left) r unit at h few s f wide = moved_if-read _ r _ h few (λ e.
    let tests : (nat_le 14 (number_spelled Four unit) ≡ true) × (nat_le (number_spelled Four unit) 1514 ≡ true) = both-true _ _ e in
    record {
      stands = keep-records r _ _ _ _ _ _ _ s;
      frames = ((le-true _ _ tests.0, le-true _ _ tests.1), keep-frames r _ _ _ _ f);
    })
judged_at-read (FrameBytes left len) r unit at h few s f wide = frame-read r left len unit h s f.0 f.1 wide
judged_at-read Whole r unit at h few s f wide = closed-read r Whole at h s f
judged_at-read (Failed x) r unit at h few s f wide = closed-read r (Failed x) at h s f

judged-sound : (r : Reading) (unit : List ℕ) → length unit ≡ width_of r → IsSound r → IsSound (judged r unit)
unfolding judged
judged-sound r unit wide h =
    let few : HoldsFew r = few-at r.place r h.place h.frames in
    let read : IsRead (judged_at r.place r unit) = judged_at-read r.place r unit refl h.head few h.place h.frames wide in
    record {
      head = read.head;
      place = read.at.stands;
      frames = read.at.frames;
    }

-- the bytes of a unit that has begun change nothing of what was read
began-stands : (r : Reading) (partial : List ℕ) → StandsAt r.place r → StandsAt r.place (record r { partial = partial })
began-stands r partial h = began r.place r partial h
  where
    began : (p : Place) (r : Reading) (partial : List ℕ) → StandsAt p r → StandsAt p (record r { partial = partial })
    began Head r partial h = (h.0, record { pages = h.1.pages; blocks = h.1.blocks; sectors = h.1.sectors })
    began PageCount r partial h = (h.0, record { pages = h.1.pages; blocks = h.1.blocks; sectors = h.1.sectors })
    began (PageMask left page) r partial h = (h.0, keep-records r _ _ _ _ _ _ _ h.1)
    began (Block left page more) r partial h = (h.0, keep-records r _ _ _ _ _ _ _ h.1)
    began (SectorBytes left sector) r partial h = (h.0, keep-records r _ _ _ _ _ _ _ h.1)
    began (Failed x) r partial h = keep-few r _ _ h
    began other r partial h = keep-records r _ _ _ _ _ _ _ h

began-frames : (p : Place) (r : Reading) (partial : List ℕ) → FramesAt p r → FramesAt p (record r { partial = partial })
began-frames (FrameLength left) r partial h = keep-frames r _ _ _ _ h
began-frames (FrameBytes left len) r partial h = (h.0, keep-frames r _ _ _ _ h.1)
began-frames Whole r partial h = keep-frames r _ _ _ _ h
began-frames (Failed x) r partial h = tt
began-frames other r partial h = h

pub fed_byte-sound : (r : Reading) (b : ℕ) → IsSound r → IsSound (fed_byte r b)
unfolding fed_byte
fed_byte-sound r b h =
    elim (is_closed r.place) as (λ (closed : Bool). IsSound (if closed then r else (if length r.partial + 1 == width_of r
    then judged r (r.partial ++ b ∷ []) else record r { partial = r.partial ++ b ∷ [] }))) [
      | true ↦ h
      | false ↦ elim (length r.partial + 1 == width_of r) as (λ (whole : Bool). (length r.partial + 1 == width_of r) ≡ whole →
          IsSound (if whole then judged r (r.partial ++ b ∷ []) else record r { partial = r.partial ++ b ∷ [] })) [
            | true ↦ λ (e : (length r.partial + 1 == width_of r) ≡ true).
                judged-sound r _ (length-append r.partial (b ∷ []) ∙ eq-true _ _ e) h
            | false ↦ λ (e : (length r.partial + 1 == width_of r) ≡ false). record {
              head = keep-head r _ _ _ _ _ _ _ h.head;
              place = began-stands r _ h.place;
              frames = began-frames r.place r _ h.frames;
            }
          ] refl
    ]

pub fed-sound : (r : Reading) (bytes : List ℕ) → IsSound r → IsSound (fed r bytes)
unfolding fed
fed-sound r [] h = h
fed-sound r (b ∷ bs) h = fed-sound (fed_byte r b) bs (fed_byte-sound r b h)

pub begun-sound : (shape : Shape) (offset : ℕ) → IsSound (begun shape offset)
begun-sound shape offset = record {
  head = record { known = refl; rows = omega arith; passes = tt; last = refl };
  place = (omega arith, record { pages = refl; blocks = refl; sectors = refl });
  frames = refl;
}
