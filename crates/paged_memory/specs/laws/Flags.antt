-- The flags of a range of pages: in it, and before and after it; and the range that bytes lie in.
use Rattle.std.proofs.lemmas.Bool.{true≢false, cases_lt, ne_eqb}
use Rattle.std.proofs.lemmas.List.{ext_get_or, get_or_append_left}
use Rattle.std.proofs.lemmas.List.{get_or-append_right, length-take-le, length-append, length-drop, length-replicate, get_or-drop}
use Rattle.std.proofs.lemmas.List.{get_or-take, get_or-replicate}
use Rattle.std.proofs.Common.{◌≡◌, ℕ}
use Rattle.std.proofs.Common.{◌+◌, ◌-◌, ◌*◌, ◌/◌, ◌<◌, ◌≤◌, ◌⊎◌, ◌++◌, inl, inr, Bool, true, false, if◌then◌else◌, List, length, replicate}
use Rattle.std.proofs.Common.{take, drop, get_or, sym, ap, ◌∙◌, arith}
use Rattle.paged_memory.specs.Pages.{flagged, end_page, marked}

pub length-flagged : (xs : List Bool) (from end : ℕ) → from ≤ end → end ≤ length xs → length (flagged xs from end) ≡ length xs
length-flagged xs from end ordered within =
    omega (
      arith,
      length-append (take from xs) (replicate (end - from) true ++ drop end xs),
      length-append (replicate (end - from) true) (drop end xs),
      length-take-le from xs (omega arith),
      length-drop end xs,
      length-replicate (end - from) true,
    )

-- the flag of a page before the range
pub flag_before : (xs : List Bool) (from end i : ℕ) (d : Bool) → from ≤ length xs → i < from →
    get_or (flagged xs from end) i d ≡ get_or xs i d
flag_before xs from end i d within below =
    get_or_append_left (take from xs) (replicate (end - from) true ++ drop end xs) d i (omega (arith, length-take-le from xs within))
    ∙ get_or-take from xs i d below

-- that of a page in it
pub flag_inside : (xs : List Bool) (from end i : ℕ) (d : Bool) → from ≤ length xs → from ≤ i → i < end →
    get_or (flagged xs from end) i d ≡ true
flag_inside xs from end i d within above below =
    get_or-append_right (take from xs) (replicate (end - from) true ++ drop end xs) from i d (length-take-le from xs within) above
    ∙ get_or_append_left (replicate (end - from) true) (drop end xs) d (i - from) (omega (arith, length-replicate (end - from) true))
    ∙ get_or-replicate (end - from) (i - from) true d (omega arith)

-- that of a page after it
pub flag_after : (xs : List Bool) (from end i : ℕ) (d : Bool) → from ≤ end → end ≤ length xs → end ≤ i →
    get_or (flagged xs from end) i d ≡ get_or xs i d
flag_after xs from end i d ordered within above =
    let place : end + (i - from - (end - from)) ≡ i = omega arith in
    get_or-append_right (take from xs) (replicate (end - from) true ++ drop end xs) from i d (length-take-le from xs (omega arith))
    (omega arith)
    ∙ get_or-append_right (replicate (end - from) true) (drop end xs) (end - from) (i - from) d (length-replicate (end - from) true)
    (omega arith)
    ∙ get_or-drop end xs (i - from - (end - from)) d
    ∙ ap (λ (k : ℕ). get_or xs k d) place

-- a page out of the range that has no flag after has none before
pub no_new_flag : (xs : List Bool) (from end i : ℕ) → from ≤ end → end ≤ length xs → get_or (flagged xs from end) i true ≡ false →
    ((i < from) ⊎ (end ≤ i)) × (get_or xs i true ≡ false)
no_new_flag xs from end i ordered within none =
    elim (cases_lt i from) [
      | inl below ↦ (inl below, sym (flag_before xs from end i true (omega arith) below) ∙ none)
      | inr above ↦ elim (cases_lt i end) [
        | inl inside ↦ absurd (true≢false (sym (flag_inside xs from end i true (omega arith) above inside) ∙ none))
        | inr past ↦ (inr past, sym (flag_after xs from end i true ordered within past) ∙ none)
      ]
    ]

-- none at all
pub no_pages : (xs : List Bool) (from : ℕ) → from ≤ length xs → flagged xs from from ≡ xs
no_pages xs from within =
    ext_get_or true _ _ (length-flagged xs from from (omega arith) within)
    (λ i here. elim (cases_lt i from) [
      | inl below ↦ flag_before xs from from i true within below
      | inr above ↦
          flag_after xs from from i true (omega arith) within above
    ])

-- the pages that some bytes lie in
pub end_page_some : (at n : ℕ) → 1 ≤ n → end_page at n ≡ (at + n - 1) / 4096 + 1
end_page_some at n some = ap (λ (b : Bool). if b then at / 4096 else (at + n - 1) / 4096 + 1) (ne_eqb n 0 (λ e. omega arith))

pub marked_some : (xs : List Bool) (at n : ℕ) → 1 ≤ n → marked xs at n ≡ flagged xs (at / 4096) ((at + n - 1) / 4096 + 1)
marked_some xs at n some = ap (λ (k : ℕ). flagged xs (at / 4096) k) (end_page_some at n some)

pub marked_none : (xs : List Bool) (at n : ℕ) → n ≡ 0 → at ≤ 4096 * length xs → marked xs at n ≡ xs
marked_none xs at n none within =
    ap (λ (k : ℕ). marked xs at k) none ∙ no_pages xs (at / 4096) (omega arith)
