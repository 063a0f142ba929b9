-- The units of the page records are read as these.
use Rattle.std.proofs.Common.{◌≡◌, ◌≢◌, ℕ, suc, zero, ◌+◌, ◌-◌, ◌<◌, ◌≤◌, ◌%◌, ◌^◌, ◌==◌, ◌&&◌, List, [], ◌∷◌, ◌++◌, length, map, take}
use Rattle.std.proofs.Common.{drop, IsTrue, not, Bool, true, false, refl, ◌∙◌, ap, arith, append_assoc, All, count_ones, nat_le, nat_lt}
use Rattle.std.proofs.{Common.{length-drop, length-append}, lemmas.List.{append-nil, take-append-drop}}
use Rattle.std.proofs.lemmas.{List.{Elements.{All-head, All-tail, All-take, All-drop}, Sums.sum_by-cons}, Bool.Decides.nat_tests}
use Rattle.std.proofs.lemmas.Nat.{zero_from_ones}
use Rattle.guest_rules.specs.{Dirty.Rises, declared.shapes.Shape.Shape}
use Rattle.epoch_snapshot.specs.{declared.changes.{PageChange.PageChange, SectorChange.SectorChange}, Blocks.is_zero}
use Rattle.epoch_snapshot.specs.Checkpoints.{block_count}
use Rattle.checkpoint_stream.specs.declared.{rules.Width.TheVariants.{Four, Eight}, place.Place.{TheVariants.{PageIndex}}}
use Rattle.checkpoint_stream.specs.declared.place.Place.TheVariants.{PageMask, Block, SectorCount}
use Rattle.checkpoint_stream.specs.{HeadTable.bytes_of, Readings.{Reading, judged, kept_mask, kept_block, pages_due, after_block}}
use Rattle.checkpoint_stream.specs.{Text.page_units}
use Rattle.checkpoint_stream.proofs.{Numbers.{number-back, length-bytes_of, some-bytes}, Leading.{at, Leads, Leads-append, Leads-unit}}
use Rattle.checkpoint_stream.proofs.Leading.{Leads-none, Leads-number}

-- what is true of each mask, block and sector
abbrev pub HasOnes : PageChange → Type 0
HasOnes p = p.mask ≢ 0

abbrev pub FitsMask : PageChange → Type 0
FitsMask p = p.mask < 2 ^ 64

abbrev pub HasByte : List ℕ → Type 0
HasByte b = IsTrue (not (is_zero b))

abbrev pub IsBlockWide : List ℕ → Type 0
IsBlockWide b = length b ≡ 64

abbrev pub IsSectorWide : SectorChange → Type 0
IsSectorWide s = length s.bytes ≡ 512

pub Rises-end : (from end : ℕ) (is : List ℕ) → Rises from end is → from + length is ≤ end
Rises-end from end [] h = omega (arith, h)
Rises-end from end (i ∷ is) h = omega (arith, h.0, Rises-end (i + 1) end is h.1)

pub inside-test : (from n end : ℕ) → from ≤ n → n < end → (nat_le from n && nat_lt n end) ≡ true
inside-test from n end h k = grind (arith, nat_tests)

not-zero-test : (n : ℕ) → n ≢ 0 → (n == 0) ≡ false
not-zero-test n h = grind (arith, nat_tests)

pub not-true : {b : Bool} → IsTrue (not b) → b ≡ false
not-true {b} h = grind arith

-- a mask
mask-step : (r : Reading) (left page mask : ℕ) → mask ≢ 0 → mask < 2 ^ 64 →
    Leads (record r { place = PageMask left page }) (bytes_of Eight mask ∷ [])
    (record r { place = Block left page (count_ones mask - 1); pages = r.pages ++ (record { page = page; mask = mask }) ∷ [] })
unfolding judged kept_mask
mask-step r left page mask some small =
    let s : Reading = record r { place = PageMask left page } in
    Leads-unit s _ _ refl (some-bytes Eight mask) (length-bytes_of Eight mask)
    (λ o. (
      (o + 8) % 2 ^ 64,
      ap (λ (m : ℕ). kept_mask (m == 0) (at s o) left page m) (number-back Eight mask small)
          ∙ ap (λ (b : Bool). kept_mask b (at s o) left page mask) (not-zero-test mask some),
    ))

-- a block
block-step : (r : Reading) (left page more : ℕ) (block : List ℕ) → IsTrue (not (is_zero block)) → length block ≡ 64 →
    Leads (record r { place = Block left page more }) (block ∷ [])
    (record r { place = after_block left page more; blocks = r.blocks ++ block ∷ [] })
unfolding judged kept_block
block-step r left page more block some wide =
    let s : Reading = record r { place = Block left page more } in
    Leads-unit s _ _ refl (omega (arith, wide)) wide
    (λ o. ((o + 64) % 2 ^ 64, ap (λ (b : Bool). kept_block b (at s o) left page more block) (not-true some)))

-- the blocks of a page
blocks-lead : (r : Reading) (left page more : ℕ) (own : List (List ℕ)) →
    length own ≡ more + 1 → All (λ b. IsTrue (not (is_zero b))) own → All (λ b. length b ≡ 64) own →
    Leads (record r { place = Block left page more }) own (record r { place = pages_due left (page + 1); blocks = r.blocks ++ own })
blocks-lead r left page more [] count some wide = absurd (omega (arith, count))
blocks-lead r left page zero (b ∷ []) count some wide =
    block-step r left page zero b (All-head HasByte b [] some) (All-head IsBlockWide b [] wide)
blocks-lead r left page (suc more) (b ∷ []) count some wide = absurd (omega (arith, count))
blocks-lead r left page zero (b ∷ c ∷ own) count some wide = absurd (omega (arith, count))
blocks-lead r left page (suc more) (b ∷ c ∷ own) count some wide =
    let next : Reading = record r { blocks = r.blocks ++ b ∷ [] } in
    let both : Leads (record r { place = Block left page (suc more) }) (b ∷ c ∷ own)
    (record next { place = pages_due left (page + 1); blocks = next.blocks ++ c ∷ own })
    = Leads-append _ _ _ _ _
    (block-step r left page (suc more) b (All-head HasByte b (c ∷ own) some) (All-head IsBlockWide b (c ∷ own) wide))
    (blocks-lead next left page more (c ∷ own) (omega (arith, count)) (All-tail HasByte b (c ∷ own) some)
    (All-tail IsBlockWide b (c ∷ own) wide)) in
    rw (← append_assoc r.blocks (b ∷ []) (c ∷ own)) both

page_units-nil : (blocks : List (List ℕ)) → page_units [] blocks ≡ []
unfolding page_units
page_units-nil blocks = refl

page_units-cons : (p : PageChange) (ps : List PageChange) (blocks : List (List ℕ)) →
    page_units (p ∷ ps) blocks ≡ (bytes_of Four p.page ∷ []) ++ ((bytes_of Eight p.mask ∷ [])
    ++ (take (count_ones p.mask) blocks ++ page_units ps (drop (count_ones p.mask) blocks)))
unfolding page_units
page_units-cons p ps blocks = refl

-- the page records that are left, with their blocks
pub record PagesLeft (shape : Shape) (from : ℕ) (pages : List PageChange) (blocks : List (List ℕ)) : Type 0 where
  pub rises : Rises from shape.pages (map (λ p. p.page) pages)
  pub some : All (λ p. p.mask ≢ 0) pages
  pub masks : All (λ p. p.mask < 2 ^ 64) pages
  pub count : length blocks ≡ block_count pages
  pub not_zero : All (λ b. IsTrue (not (is_zero b))) blocks
  pub wide : All (λ b. length b ≡ 64) blocks

one-more : (p : PageChange) (ps : List PageChange) → block_count (p ∷ ps) ≡ count_ones p.mask + block_count ps
one-more p ps = sum_by-cons (λ (p : PageChange). count_ones p.mask) p ps

rest-left : (shape : Shape) (from : ℕ) (p : PageChange) (ps : List PageChange) (blocks : List (List ℕ)) →
    PagesLeft shape from (p ∷ ps) blocks → PagesLeft shape (p.page + 1) ps (drop (count_ones p.mask) blocks)
rest-left shape from p ps blocks h = record {
  rises = h.rises.1;
  some = All-tail HasOnes p ps h.some;
  masks = All-tail FitsMask p ps h.masks;
  count = omega (arith, h.count, one-more p ps, length-drop (count_ones p.mask) blocks);
  not_zero = All-drop HasByte (count_ones p.mask) blocks h.not_zero;
  wide = All-drop IsBlockWide (count_ones p.mask) blocks h.wide;
}

own-count : (shape : Shape) (from : ℕ) (p : PageChange) (ps : List PageChange) (blocks : List (List ℕ)) →
    PagesLeft shape from (p ∷ ps) blocks → length (take (count_ones p.mask) blocks) ≡ count_ones p.mask - 1 + 1
own-count shape from p ps blocks h =
    let some : p.mask ≢ 0 = All-head HasOnes p ps h.some in
    let ones : count_ones p.mask ≢ 0 = λ (e : count_ones p.mask ≡ 0). some (zero_from_ones p.mask e) in
    let all : length (take (count_ones p.mask) blocks ++ drop (count_ones p.mask) blocks) ≡ length blocks
    = ap length (take-append-drop (count_ones p.mask) blocks) in
    omega (
      arith,
      h.count,
      one-more p ps,
      ones,
      all,
      length-drop (count_ones p.mask) blocks,
      length-append (take (count_ones p.mask) blocks) (drop (count_ones p.mask) blocks),
    )

pub pages-lead : (r : Reading) (from : ℕ) (ps : List PageChange) (blocks : List (List ℕ)) → PagesLeft r.shape from ps blocks →
    Leads (record r { place = pages_due (length ps) from }) (page_units ps blocks)
    (record r { place = SectorCount; pages = r.pages ++ ps; blocks = r.blocks ++ blocks })
unfolding judged
pages-lead r from [] [] h = rw (page_units-nil [], append-nil r.pages, append-nil r.blocks) (Leads-none _)
pages-lead r from [] (b ∷ blocks) h = absurd (omega (arith, h.count))
pages-lead r from (p ∷ ps) blocks h =
    let own : List (List ℕ) = take (count_ones p.mask) blocks in
    let below : p.page < r.shape.pages = omega (arith, h.rises.0, Rises-end _ _ _ h.rises.1) in
    let opened : Reading = record r { pages = r.pages ++ p ∷ [] } in
    let next : Reading = record opened { blocks = r.blocks ++ own } in
    let all : Leads (record r { place = PageIndex (length ps) from })
    ((bytes_of Four p.page ∷ []) ++ ((bytes_of Eight p.mask ∷ []) ++ (own ++ page_units ps (drop (count_ones p.mask) blocks))))
    (record next { place = SectorCount; pages = next.pages ++ ps; blocks = next.blocks ++ drop (count_ones p.mask) blocks })
    = Leads-append _ _ _ _ _ (Leads-number (record r { place = PageIndex (length ps) from }) p.page
    (λ m. nat_le from m && nat_lt m r.shape.pages) (λ m. PageMask (length ps) m) refl refl (λ o. refl)
    (omega (arith, below, r.shape.most_pages)) (inside-test from p.page r.shape.pages h.rises.0 below))
    (Leads-append _ _ _ _ _ (mask-step r (length ps) p.page p.mask (All-head HasOnes p ps h.some) (All-head FitsMask p ps h.masks))
    (Leads-append _ _ _ _ _ (blocks-lead opened (length ps) p.page (count_ones p.mask - 1) own (own-count r.shape from p ps blocks h)
    (All-take HasByte (count_ones p.mask) blocks h.not_zero) (All-take IsBlockWide (count_ones p.mask) blocks h.wide))
    (pages-lead next (p.page + 1) ps (drop (count_ones p.mask) blocks) (rest-left r.shape from p ps blocks h)))) in
    let same_pages : (r.pages ++ p ∷ []) ++ ps ≡ r.pages ++ p ∷ ps = append_assoc r.pages (p ∷ []) ps in
    let same_blocks : (r.blocks ++ own) ++ drop (count_ones p.mask) blocks ≡ r.blocks ++ blocks
    = append_assoc r.blocks own (drop (count_ones p.mask) blocks)
    ∙ ap (λ (l : List (List ℕ)). r.blocks ++ l) (take-append-drop (count_ones p.mask) blocks) in
    rw (page_units-cons p ps blocks, ← same_pages, ← same_blocks) all
