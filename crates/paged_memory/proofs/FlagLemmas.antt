-- The flags of a range of pages.
use Rattle.std.proofs.lemmas.Bool.{cases_lt, cases_order, cases_eq}
use Rattle.std.proofs.lemmas.List.{ext_get_or}
use Rattle.std.proofs.lemmas.List.{get_or-set_same, get_or-set_other, length-set, set-set}
use Rattle.std.proofs.Common.{◌≡◌, ℕ}
use Rattle.std.proofs.Common.{◌+◌, ◌-◌, ◌*◌, ◌/◌, ◌<◌, ◌≤◌, inl, inr, Bool, true, List, length}
use Rattle.std.proofs.Common.{get_or, sym, ap, ◌∙◌, arith}
use Rattle.std.proofs.Math.ListN.{set}
use Rattle.paged_memory.specs.Pages.{flagged, marked}
use Rattle.paged_memory.specs.laws.Flags.{length-flagged, flag_before, flag_inside, flag_after, no_pages, marked_some}

-- two ranges that agree on each page
flag_below_more : (xs : List Bool) (from end i : ℕ) → from ≤ end → end < length xs → i < length xs →
    get_or (set (flagged xs from end) end true) i true ≡ get_or (flagged xs from (end + 1)) i true
flag_below_more xs from end i ordered within here =
    elim (cases_order i end) [
      | inl same ↦ at_end same
      | inr apart ↦ elim apart [ inl below ↦ before below | inr above ↦ after above ]
    ]
  where
    at_end : i ≡ end → get_or (set (flagged xs from end) end true) i true ≡ get_or (flagged xs from (end + 1)) i true
    at_end same =
        ap (λ (k : ℕ). get_or (set (flagged xs from end) end true) k true) same
        ∙ get_or-set_same (flagged xs from end) end true true (omega (arith, length-flagged xs from end ordered (omega arith)))
        ∙ sym (flag_inside xs from (end + 1) i true (omega arith) (omega arith) (omega arith))

    others : (i ≡ end → ⊥) → get_or (set (flagged xs from end) end true) i true ≡ get_or (flagged xs from end) i true
    others apart = get_or-set_other (flagged xs from end) end i true true apart

    before : i < end → get_or (set (flagged xs from end) end true) i true ≡ get_or (flagged xs from (end + 1)) i true
    before below = others (λ e. omega arith) ∙ elim (cases_lt i from) [
      | inl first ↦ flag_before xs from end i true (omega arith) first ∙ sym (flag_before xs from (end + 1) i true (omega arith) first)
      | inr in_it ↦
          flag_inside xs from end i true (omega arith) in_it below
          ∙ sym (flag_inside xs from (end + 1) i true (omega arith) in_it (omega arith))
    ]

    after : end < i → get_or (set (flagged xs from end) end true) i true ≡ get_or (flagged xs from (end + 1)) i true
    after above =
        others (λ e. omega arith) ∙ flag_after xs from end i true ordered (omega arith) (omega arith)
        ∙ sym (flag_after xs from (end + 1) i true (omega arith) (omega arith) (omega arith))

-- one page more
pub one_more : (xs : List Bool) (from end : ℕ) → from ≤ end → end < length xs →
    set (flagged xs from end) end true ≡ flagged xs from (end + 1)
one_more xs from end ordered within =
    let before : length (flagged xs from end) ≡ length xs = length-flagged xs from end ordered (omega arith) in
    let after : length (flagged xs from (end + 1)) ≡ length xs = length-flagged xs from (end + 1) (omega arith) (omega arith) in
    ext_get_or true _ _ (length-set (flagged xs from end) end true ∙ before ∙ sym after)
    (λ i here. flag_below_more xs from end i ordered within (omega (arith, here, length-set (flagged xs from end) end true, before)))

-- the bytes of at most a page lie in one page, or in two that follow each other
few_marked_one : (xs : List Bool) (from end : ℕ) → from < length xs → end ≡ from →
    set (set xs from true) end true ≡ flagged xs from (end + 1)
few_marked_one xs from end within same =
    ap (λ (k : ℕ). set (set xs from true) k true) same
    ∙ set-set xs from true true
    ∙ sym (ap (λ (x : List Bool). set x from true) (no_pages xs from (omega arith)))
    ∙ one_more xs from from (omega arith) within
    ∙ ap (λ (k : ℕ). flagged xs from (k + 1)) (sym same)

few_marked_two : (xs : List Bool) (from end : ℕ) → end < length xs → end ≡ from + 1 →
    set (set xs from true) end true ≡ flagged xs from (end + 1)
few_marked_two xs from end within next =
    let first : set xs from true ≡ flagged xs from (from + 1) =
    sym (ap (λ (x : List Bool). set x from true) (no_pages xs from (omega arith))) ∙ one_more xs from from (omega arith) (omega arith) in
    ap (λ (x : List Bool). set x end true) (first ∙ ap (λ (k : ℕ). flagged xs from k) (sym next))
    ∙ one_more xs from end (omega arith) within

pub few_marked : (xs : List Bool) (at n : ℕ) → 1 ≤ n → n ≤ 4096 → at + n ≤ 4096 * length xs →
    set (set xs (at / 4096) true) ((at + n - 1) / 4096) true ≡ marked xs at n
few_marked xs at n some few within =
    elim (cases_eq ((at + n - 1) / 4096) (at / 4096)) [
      | inl same ↦ few_marked_one xs (at / 4096) ((at + n - 1) / 4096) (omega arith) same ∙ sym (marked_some xs at n some)
      | inr apart ↦ few_marked_two xs (at / 4096) ((at + n - 1) / 4096) (omega arith) (next apart) ∙ sym (marked_some xs at n some)
    ]
  where
    next : ((at + n - 1) / 4096 ≡ at / 4096 → ⊥) → (at + n - 1) / 4096 ≡ at / 4096 + 1
    next apart = elim (cases_lt ((at + n - 1) / 4096) (at / 4096 + 1)) [
      | inl below ↦ absurd (apart (omega arith))
      | inr above ↦ omega arith
    ]
