-- What a cut records of memory: a canonical checkpoint's pages and blocks, and its image.
use Rattle.std.proofs.Common.{◌≡◌, ℕ, zero, suc, ◌+◌, ◌*◌, ◌==◌, not, Bool, true, false, cond, List, [], ◌∷◌, ◌++◌, length, map, refl, sym}
use Rattle.std.proofs.{Common.{ap, ◌∙◌, arith}, lemmas.{Bool.{eqb-true, true≢false}, List.Elements.filter-append}}
use Rattle.std.specs.List.{range_with_len, filter}
use Rattle.epoch_snapshot.specs.{declared.changes.PageChange.PageChange, Blocks.{set_blocks, block_numbers, block_differs, changed_mask}}
use Rattle.epoch_snapshot.specs.{Cuts.{page_change, is_changed, changed_pages, block_change, changed_blocks}, Images.with_blocks}
use Rattle.epoch_snapshot.specs.laws.{Ranges.{range-append, filter-shift}, Masks.{set_blocks-changed, set_blocks-zero}}
use Rattle.epoch_snapshot.specs.laws.Xored.{with_blocks-all}

module _ (old new : List ℕ) where
  -- the blocks that one page's mask names
  of_page : (page : ℕ) → map (λ i. 64 * page + i) (set_blocks (changed_mask old new page)) ≡
      filter (block_differs old new) (range_with_len (64 * page) 64)
  of_page page =
      let e : 64 * page + 0 ≡ 64 * page = omega arith in
      ap (map (λ i. 64 * page + i)) (set_blocks-changed old new page)
      ∙ filter-shift (block_differs old new) (64 * page) 0 64
      ∙ ap (λ k. filter (block_differs old new) (range_with_len k 64)) e

  none_changed : (m : ℕ) (b : Bool) (page : ℕ) → (m == 0) ≡ b → not b ≡ false → map (λ i. 64 * page + i) (set_blocks m) ≡ []
  none_changed m true page e f = ap (λ k. map (λ i. 64 * page + i) (set_blocks k)) (eqb-true m 0 e)
      ∙ ap (map (λ i. 64 * page + i)) set_blocks-zero
  none_changed m false page e f = absurd (true≢false f)

  page_step : (b : Bool) (page : ℕ) (ps : List PageChange) (out : List ℕ) → is_changed (page_change old new page) ≡ b →
      filter (block_differs old new) (range_with_len (64 * page) 64) ++ block_numbers ps ≡ out →
      block_numbers (cond b (page_change old new page ∷ ps) ps) ≡ out
  unfolding block_numbers
  page_step true page ps out e then = ap (λ l. l ++ block_numbers ps) (of_page page) ∙ then
  page_step false page ps out e then =
      ap (λ l. l ++ block_numbers ps) (sym (none_changed (changed_mask old new page) (changed_mask old new page == 0) page refl e)
      ∙ of_page page) ∙ then

  from_page : (s n : ℕ) → block_numbers (filter is_changed (map (page_change old new) (range_with_len s n))) ≡
      filter (block_differs old new) (range_with_len (64 * s) (64 * n))
  unfolding block_numbers
  from_page s zero = refl
  from_page s (suc n) =
      let e : 64 * (s + 1) ≡ 64 * s + 64 = omega arith in
      let f : 64 + 64 * n ≡ 64 * suc n = omega arith in
      page_step (is_changed (page_change old new s)) s (filter is_changed (map (page_change old new) (range_with_len (s + 1) n)))
      (filter (block_differs old new) (range_with_len (64 * s) (64 * suc n))) refl
      (ap (λ l. filter (block_differs old new) (range_with_len (64 * s) 64) ++ l) (from_page (s + 1) n
      ∙ ap (λ k. filter (block_differs old new) (range_with_len k (64 * n))) e)
      ∙ sym (filter-append (block_differs old new) (range_with_len (64 * s) 64) (range_with_len (64 * s + 64) (64 * n)))
      ∙ ap (filter (block_differs old new)) (sym (range-append (64 * s) 64 (64 * n)))
      ∙ ap (λ k. filter (block_differs old new) (range_with_len (64 * s) k)) f)

  -- the blocks of the changed pages are those that differ
  pub block_numbers-changed : (n : ℕ) → block_numbers (changed_pages old new n) ≡ filter (block_differs old new) (range_with_len 0 (64 * n))
  unfolding changed_pages
  block_numbers-changed n = from_page 0 n

  -- the changed blocks, XORed into the old memory, make the new one
  pub with_blocks-cut : (n : ℕ) → length old ≡ length new → length new ≡ 4096 * n →
      with_blocks old (block_numbers (changed_pages old new n)) (changed_blocks old new (changed_pages old new n)) ≡ new
  with_blocks-cut n same long =
      ap (λ ns. with_blocks old ns (map (block_change old new) ns)) (block_numbers-changed n)
      ∙ with_blocks-all old new same (64 * n) (omega arith)
