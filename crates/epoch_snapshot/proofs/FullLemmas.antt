-- A full checkpoint: it stands for itself, the blocks of a page are the page's own, and its parts have their widths.
use Rattle.std.proofs.Common.{◌≡◌, ℕ, zero, suc, ◌+◌, ◌*◌, ◌^◌, ◌<◌, ◌≤◌, ◌==◌, Bool, true, false, cond, List, [], ◌∷◌, length, map, replicate}
use Rattle.std.proofs.{Common.{refl, sym, ap, ◌∙◌, arith, subst, All, lit<}, lemmas.{Simd.map-map, List.Elements.{All-nil, All-cons}}}
use Rattle.std.{proofs.lemmas.List.length-replicate, specs.{List.{range_with_len, filter}, Int.{bit_at, Bits.xor_zero_l}}}
use Rattle.net_device.specs.Frames.{IsFrame}
use Rattle.guest_rules.specs.{Dirty.Rises, Guest.{Guest, State, sector_count}, MachineStates.{IsMachineState, state_of, with_state}, Pages.page_of}
use Rattle.epoch_snapshot.specs.{declared.changes.{PageChange.PageChange, SectorChange.SectorChange}, Bases.{IsCheckpointOver, IsFullCut}}
use Rattle.epoch_snapshot.specs.{Blocks.{block_in, block_differs, set_blocks, xored}, Checkpoints.{Change, IsCanonical}, Images.image_of}
use Rattle.epoch_snapshot.specs.Cuts.{page_change, is_changed, changed_pages, block_change, changed_blocks, sector_change, changed_sectors}
use Rattle.epoch_snapshot.specs.Cuts.{used_sectors}
use Rattle.epoch_snapshot.specs.laws.Masks.{changed_mask-lt}
use Rattle.epoch_snapshot.specs.laws.Xored.{length-block}
use Rattle.epoch_snapshot.specs.laws.Bytes.{length-xored}
use Rattle.epoch_snapshot.specs.laws.Cuts.{block_numbers-changed}
use Rattle.epoch_snapshot.specs.laws.Pages.{block_in-page, map_agree_in, one_page, zero_block}
use Rattle.epoch_snapshot.specs.laws.{Sectors.{Rises-used, used-nonzero, length-sector_of}, Images.{IsCanonical-cut, image-full, count_is}}

zeros : List ℕ → List ℕ
zeros ram = replicate (length ram) 0

-- ---- over a memory that is all zero a block is recorded as it is

xored-zeros : (n : ℕ) (b : List ℕ) → length b ≡ n → xored (replicate n 0) b ≡ b
xored-zeros zero [] e = refl
xored-zeros zero (x ∷ xs) e = absurd (omega arith)
xored-zeros (suc n) [] e = absurd (omega arith)
xored-zeros (suc n) (x ∷ xs) e = λ i. xor_zero_l x i ∷ xored-zeros n xs (omega arith) i

own-block : (ram : List ℕ) (n : ℕ) → 64 * n + 64 ≤ length ram → block_change (zeros ram) ram n ≡ block_in ram n
unfolding zeros
own-block ram n within =
    ap (λ z. xored z (block_in ram n)) (zero_block (length ram) n within) ∙ xored-zeros 64 (block_in ram n) (length-block ram n within)

pub own-blocks : (ram : List ℕ) (p : PageChange) → 4096 * p.page + 4096 ≤ length ram →
    map (λ i. block_in (page_of ram p.page) i) (set_blocks p.mask) ≡ changed_blocks (replicate (length ram) 0) ram (p ∷ [])
unfolding set_blocks zeros
own-blocks ram p within =
    map_agree_in (λ i. block_in (page_of ram p.page) i) (λ i. block_change (zeros ram) ram (64 * p.page + i)) (λ i. bit_at p.mask i == 1) 0 64
    (λ i low high. block_in-page ram p.page i (omega (arith, high)) ∙ sym (own-block ram (64 * p.page + i) (omega (arith, high, within))))
    ∙ sym (map-map (block_change (zeros ram) ram) (λ i. 64 * p.page + i) (set_blocks p.mask))
    ∙ ap (map (block_change (zeros ram) ram)) (sym (one_page p))

-- ---- widths

-- what a test keeps of things made of a range has what they have
kept-step : {X : Type 0} (P : X → Type 0) (b : Bool) (x : X) (xs : List X) → P x → All P xs → All P (cond b (x ∷ xs) xs)
kept-step P true x xs here later = All-cons P x xs here later
kept-step P false x xs here later = later

kept-all : {X : Type 0} (P : X → Type 0) (f : ℕ → X) (q : X → Bool) (s n : ℕ) → ((i : ℕ) → s ≤ i → i < s + n → P (f i)) →
    All P (filter q (map f (range_with_len s n)))
kept-all P f q s zero each = All-nil P
kept-all P f q s (suc n) each =
    kept-step P (q (f s)) (f s) (filter q (map f (range_with_len (s + 1) n))) (each s (omega arith) (omega arith))
    (kept-all P f q (s + 1) n (λ i low high. each i (omega arith) (omega arith)))

-- so have things made of what a test keeps of it
made-step : {X : Type 0} (P : X → Type 0) (f : ℕ → X) (b : Bool) (s : ℕ) (is : List ℕ) → P (f s) → All P (map f is) →
    All P (map f (cond b (s ∷ is) is))
made-step P f true s is here later = All-cons P (f s) (map f is) here later
made-step P f false s is here later = later

made-all : {X : Type 0} (P : X → Type 0) (f : ℕ → X) (q : ℕ → Bool) (s n : ℕ) → ((i : ℕ) → s ≤ i → i < s + n → P (f i)) →
    All P (map f (filter q (range_with_len s n)))
made-all P f q s zero each = All-nil P
made-all P f q s (suc n) each =
    made-step P f (q s) s (filter q (range_with_len (s + 1) n)) (each s (omega arith) (omega arith))
    (made-all P f q (s + 1) n (λ i low high. each i (omega arith) (omega arith)))

masks-fit : (old new : List ℕ) (n : ℕ) → All (λ (p : PageChange). p.mask < 2 ^ 64) (changed_pages old new n)
unfolding changed_pages
masks-fit old new n =
    kept-all (λ (p : PageChange). p.mask < 2 ^ 64) (page_change old new) is_changed 0 n (λ i low high. changed_mask-lt old new i)

blocks-fit : (old new : List ℕ) (n : ℕ) → length old ≡ length new → length new ≡ 4096 * n →
    All (λ (b : List ℕ). length b ≡ 64) (changed_blocks old new (changed_pages old new n))
blocks-fit old new n same size =
    let each : All (λ (b : List ℕ). length b ≡ 64) (map (block_change old new) (filter (block_differs old new) (range_with_len 0 (64 * n)))) =
    made-all (λ (b : List ℕ). length b ≡ 64) (block_change old new) (block_differs old new) 0 (64 * n)
    (λ i low high.
    let was : length (block_in old i) ≡ 64 = length-block old i (omega (arith, high, size, same)) in
    let is : length (block_in new i) ≡ 64 = length-block new i (omega (arith, high, size)) in
    length-xored (block_in old i) (block_in new i) (was ∙ sym is) ∙ was) in
    subst (λ ns. All (λ (b : List ℕ). length b ≡ 64) (map (block_change old new) ns)) (sym (block_numbers-changed old new n)) each

sectors-fit : (disk : List ℕ) (n : ℕ) → length disk ≡ 512 * n →
    All (λ (s : SectorChange). length s.bytes ≡ 512) (changed_sectors disk (used_sectors disk n))
unfolding used_sectors
sectors-fit disk n size =
    made-all (λ (s : SectorChange). length s.bytes ≡ 512) (sector_change disk) _ 0 n
    (λ i low high. length-sector_of disk i n (omega (arith, high)) size)

-- ---- the checkpoint

module _ (m : State) (g : ℕ) (c : Change) (cut : IsFullCut m g c) where
  count : sector_count m.guest.sectors ≡ c.shape.sectors
  count = count_is m.guest.sectors c.shape.sectors cut.sectors_size

  pub full-canonical : 1 ≤ g → g < 2 ^ 62 → IsMachineState (state_of m.guest) → IsCanonical c
  full-canonical first last rules =
      let disk = m.guest.sectors in
      IsCanonical-cut (replicate (length m.guest.ram) 0) (used_sectors disk (sector_count disk)) [] m g 0 c cut first last (lit< tt)
      (subst IsMachineState (sym cut.state) rules)
      (subst (λ (n : ℕ). Rises 0 n (used_sectors disk (sector_count disk))) count (Rises-used disk (sector_count disk)))
      (λ z. used-nonzero disk (sector_count disk)) (All-nil IsFrame) (omega arith) (λ z. refl)

  pub full-image : (base : Guest) → with_state m.guest (state_of m.guest) ≡ m.guest → image_of c base ≡ m.guest
  full-image base whole =
      image-full m g c base
      (subst (λ (n : ℕ). IsCheckpointOver (replicate (length m.guest.ram) 0) (used_sectors m.guest.sectors n) [] m g 0 c) count cut) whole

  pub full-masks : All (λ (p : PageChange). p.mask < 2 ^ 64) c.pages
  full-masks =
      subst (All (λ (p : PageChange). p.mask < 2 ^ 64)) (sym cut.pages) (masks-fit (replicate (length m.guest.ram) 0) m.guest.ram c.shape.pages)

  pub full-blocks : All (λ (b : List ℕ). length b ≡ 64) c.blocks
  full-blocks =
      let old : List ℕ = replicate (length m.guest.ram) 0 in
      subst (All (λ (b : List ℕ). length b ≡ 64)) (sym (cut.blocks ∙ ap (changed_blocks old m.guest.ram) cut.pages))
      (blocks-fit old m.guest.ram c.shape.pages (length-replicate (length m.guest.ram) 0) cut.pages_size)

  pub full-sectors : All (λ (s : SectorChange). length s.bytes ≡ 512) c.sectors
  full-sectors =
      subst (All (λ (s : SectorChange). length s.bytes ≡ 512)) (sym cut.sectors)
      (sectors-fit m.guest.sectors (sector_count m.guest.sectors) (omega (arith, count, cut.sectors_size)))
