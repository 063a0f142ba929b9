-- A checkpoint's text is read as this checkpoint.
use Rattle.std.proofs.Common.{◌≡◌, ℕ, ◌<◌, ◌≤◌, List, [], ◌∷◌, length, refl, sym, ◌∙◌, ap, subst, arith, lit<, All, drop, Bool, true}
use Rattle.std.proofs.Common.{◌++◌, nat_le}
use Rattle.std.proofs.{Common.{false, ◌==◌, if◌then◌else◌}, lemmas.List.{length-map, Elements.{All-take, All-drop}}}
use Rattle.std.proofs.lemmas.Bool.Decides.{nat_tests}
use Rattle.guest_rules.specs.declared.machine_state.MachineState.{MachineState}
use Rattle.epoch_snapshot.specs.{declared.changes.{PageChange.PageChange, SectorChange.SectorChange}, Checkpoints.{Change, IsCanonical}}
use Rattle.epoch_snapshot.specs.Checkpoints.{change_of}
use Rattle.arrayvec.specs.ArrayVec.{ArrayVec}
use Rattle.checkpoint_stream.specs.declared.{rules.Width.TheVariants.Four, place.Place.TheVariants.{Head, PageCount, SectorCount, Whole}}
use Rattle.checkpoint_stream.specs.declared.place.Place.TheVariants.{FrameCount}
use Rattle.checkpoint_stream.specs.Readings.{after_sectors, is_full}
use Rattle.checkpoint_stream.specs.{HeadTable.{head_table, bytes_of}, Readings.{Reading, begun, judged, pages_due, sectors_due}}
use Rattle.checkpoint_stream.specs.{Sound.{change_in, last_after, version_from}, Taken.Takes, Text.{magic, head_numbers, numbers_from}}
use Rattle.checkpoint_stream.specs.{Text.{frame_units, units, joined, text}, Units.judged_all}
use Rattle.checkpoint_stream.specs.{Units.AreUnits, Widths.{HasWidths, StateFits}, ReadBack.ReadsBack}
use Rattle.checkpoint_stream.proofs.{Feeding.{Takes-nothing, Takes-append, Takes-unit}}
use Rattle.checkpoint_stream.proofs.{Leading.{at, standing, Leads, Leads-append, Leads-none}}
use Rattle.checkpoint_stream.proofs.{Leading.Leads-number, Numbers.eq-true}
use Rattle.checkpoint_stream.proofs.{HeadRead.numbers-lead, HeadFits.{IsWord, head-passes, head-fits}, StateRead.{state-back, numbers-back}}
use Rattle.checkpoint_stream.proofs.RecordsRead.{FitsMask, IsBlockWide, IsSectorWide, Rises-end, PagesLeft, pages-lead}
use Rattle.checkpoint_stream.proofs.{SectorsRead.{SectorsLeft, sectors-lead}, FramesRead.counted-lead}

-- units are taken whole, and read as these units
pub units-taken : (r : Reading) (us : List (List ℕ)) → AreUnits r us → Takes r (joined us) (judged_all r us)
unfolding joined
units-taken r [] h = Takes-nothing r
units-taken r (u ∷ us) h =
    Takes-append r (judged r u) (judged_all (judged r u) us) u (joined us) (Takes-unit r (judged r u) u h.0 h.1 h.2 h.3 refl)
    (units-taken (judged r u) us h.4)

some-rows : 0 < length head_table
unfolding head_table
some-rows = lit< tt

-- the reading that its head is, and the one that a whole checkpoint is
abbrev headed : Change → Reading
headed c = standing c.shape PageCount 80 (head_numbers c) (last_after 0 (head_numbers c))

abbrev pub whole : Change → ℕ → Reading
whole c = at (record (headed c) { place = Whole; pages = c.pages; blocks = c.blocks; sectors = c.sectors; frames = c.frames })

page-count : (c : Change) → IsCanonical c → length c.pages ≤ c.shape.pages
page-count c h = omega (arith, Rises-end 0 c.shape.pages _ h.pages, length-map c.pages (λ (p : PageChange). p.page))

sector-count : (c : Change) → IsCanonical c → length c.sectors ≤ c.shape.sectors
sector-count c h = omega (arith, Rises-end 0 c.shape.sectors _ h.sectors, length-map c.sectors (λ (s : SectorChange). s.sector))

pages-left : (c : Change) → IsCanonical c → HasWidths c → PagesLeft c.shape 0 c.pages c.blocks
pages-left c h w = record {
  rises = h.pages;
  some = h.masks;
  masks = w.masks;
  count = h.block_count;
  not_zero = h.blocks;
  wide = w.blocks;
}

-- a full one
full-number : (c : Change) → is_full (headed c) ≡ true → c.number ≡ 0
unfolding head_numbers
full-number c e = eq-true c.number 0 e

sectors-left : (c : Change) → IsCanonical c → HasWidths c → SectorsLeft c.shape (is_full (headed c)) 0 c.sectors
sectors-left c h w = record { rises = h.sectors; some = λ e. h.full_sectors (full-number c e); wide = w.sectors }

-- what follows the sector records, in either version
ending-lead : (c : Change) (r : Reading) (old : Bool) → IsCanonical c → (c.version == 1) ≡ old →
    after_sectors r ≡ (if old then Whole else FrameCount) → (is_full r ≡ true → c.frames ≡ []) → r.frames ≡ [] →
    Leads (record r { place = after_sectors r }) (if old then [] else bytes_of Four (length c.frames) ∷ frame_units c.frames)
    (record r { place = Whole; frames = c.frames })
ending-lead c r true h is ends full none = rw (ends, h.old_frames (eq-true c.version 1 is), ← none) (Leads-none _)
ending-lead c r false h is ends full none =
    rw ends (subst (λ (fs : List (ArrayVec ℕ)). Leads (record r { place = FrameCount })
    (bytes_of Four (length c.frames) ∷ frame_units c.frames) (record r { place = Whole; frames = fs ++ c.frames })) none
    (counted-lead r c.frames h.frame_count full h.frames))

ends-at : (c : Change) (old : Bool) → (c.version == 1) ≡ old → after_sectors (headed c) ≡ (if old then Whole else FrameCount)
unfolding head_numbers
ends-at c true is = rw is refl
ends-at c false is = rw is refl

units-lead : (c : Change) → IsCanonical c → HasWidths c →
    Leads (standing c.shape Head 0 [] 0) (units c) (whole c 0)
unfolding units judged
units-lead c h w =
    let r : Reading = headed c in
    let paged : Reading = record r { pages = c.pages; blocks = c.blocks } in
    let stored : Reading = record paged { sectors = c.sectors } in
    Leads-append _ _ _ _ _
    (numbers-lead c.shape head_table (head_numbers c) 0 [] 0 some-rows refl (head-passes c h) (head-fits c h w))
    (Leads-append _ _ _ _ _ (Leads-append _ _ _ _ _ (Leads-number r (length c.pages) (λ m. nat_le m c.shape.pages) (λ m. pages_due m 0)
    refl refl (λ o. refl) (omega (arith, page-count c h, c.shape.most_pages)) (le-test (length c.pages) c.shape.pages (page-count c h)))
    (pages-lead r 0 c.pages c.blocks (pages-left c h w)))
    (Leads-append _ _ _ _ _ (Leads-append _ _ _ _ _ (Leads-number (record paged { place = SectorCount }) (length c.sectors)
    (λ m. nat_le m c.shape.sectors) (λ m. sectors_due (after_sectors r) m 0) refl refl (λ o. refl)
    (omega (arith, sector-count c h, c.shape.most_sectors)) (le-test (length c.sectors) c.shape.sectors (sector-count c h)))
    (sectors-lead paged 0 c.sectors (sectors-left c h w)))
    (ending-lead c stored (c.version == 1) h refl (ends-at c (c.version == 1) refl) (λ e. h.full_frames (full-number c e)) refl)))
  where
    le-test : (m n : ℕ) → m ≤ n → nat_le m n ≡ true
    le-test m n h = grind (arith, nat_tests)

version-back : (version : ℕ) → 1 ≤ version → version ≤ 2 → version_from (magic version) ≡ version
version-back version least last =
    elim (version == 1) as (λ (old : Bool). (version == 1) ≡ old → version_from (if old then 0x31434d52 else 0x32434d52) ≡ version) [
      | true ↦ λ (e : (version == 1) ≡ true). sym (eq-true version 1 e)
      | false ↦ λ (e : (version == 1) ≡ false). two version least last e
    ] refl
  where
    two : (n : ℕ) → 1 ≤ n → n ≤ 2 → (n == 1) ≡ false → 2 ≡ n
    two n h k e = grind (arith, nat_tests)

pub whole-change : (c : Change) (o : ℕ) → IsCanonical c → HasWidths c → change_in (whole c o) ≡ c
unfolding change_in head_numbers
whole-change c o h w =
    (λ i. change_of (version-back c.version h.first_version h.last_version i) c.shape c.generation c.number (state-back c h w.state i) c.pages
    c.blocks c.sectors c.frames)

-- the text is taken whole, and with it the reading is the checkpoint's
pub text-taken : (c : Change) (o : ℕ) → IsCanonical c → HasWidths c →
    (p : ℕ) × (Takes (begun c.shape o) (text c) (whole c p))
unfolding text
text-taken c o h w =
    let l : Leads (standing c.shape Head 0 [] 0) (units c) (whole c 0) = units-lead c h w in (
      (l.lead o).0,
      subst (λ (r : Reading). Takes (begun c.shape o) (joined (units c)) r) (l.lead o).1
          (units-taken (begun c.shape o) (units c) (l.are o)),
    )

pub reads-back : (c : Change) → IsCanonical c → HasWidths c → ReadsBack c (text c)
unfolding ReadsBack
reads-back c h w = λ o.
    let t : (p : ℕ) × (Takes (begun c.shape o) (text c) (whole c p)) = text-taken c o h w in
    (ap (λ (r : Reading). r.place) (t.1.reading), ap change_in (t.1.reading) ∙ whole-change c t.0 h w, t.1.count)

-- the registers are among the head's numbers
registers-fit : (c : Change) → length c.state.registers ≡ 31 → All IsWord (head_numbers c) → All IsWord c.state.registers
unfolding head_numbers
registers-fit c count words =
    let among : All IsWord (numbers_from c.state.registers 0 31 [])
    = All-take IsWord 31 (drop 6 (head_numbers c)) (All-drop IsWord 6 (head_numbers c) words) in
    subst (All IsWord) (numbers-back c.state.registers 0 31 (sym count)) among

-- what a writer knows of a checkpoint, whose numbers and lists come from their types
pub has-widths : (c : Change) (state : MachineState) (numbers : List ℕ) (pages : List PageChange)
    (blocks : List (List ℕ)) (sectors : List SectorChange) → state ≡ c.state → numbers ≡ head_numbers c →
    pages ≡ c.pages → blocks ≡ c.blocks → sectors ≡ c.sectors → StateFits state →
    All IsWord numbers → All FitsMask pages → All IsBlockWide blocks → All IsSectorWide sectors → HasWidths c
has-widths c state numbers pages blocks sectors is_state is_numbers is_pages is_blocks is_sectors
    fits words masks wide whole =
    let all : StateFits c.state = subst StateFits is_state fits in
    record {
      state = all;
      registers = registers-fit c all.count (subst (All IsWord) is_numbers words);
      masks = subst (All FitsMask) is_pages masks;
      blocks = subst (All IsBlockWide) is_blocks wide;
      sectors = subst (All IsSectorWide) is_sectors whole;
    }
