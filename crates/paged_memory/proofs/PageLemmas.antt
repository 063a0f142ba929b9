-- A page's bytes, and the flags after a write.
use Rattle.std.proofs.{lemmas.{List.{nil_from_length, take-append-drop, length-take-le, length-drop}, Bool.cases_eq}, Common.{◌≡◌, ℕ, ◌+◌}}
use Rattle.std.proofs.Common.{◌-◌, ◌*◌, ◌/◌, ◌<◌, ◌≤◌, ◌++◌, inl, inr, Bool, true, false, List, length, take}
use Rattle.std.proofs.Common.{drop, get_or, sym, ap, ◌∙◌, arith}
use Rattle.std.proofs.lemmas.List.{get_or_append_left, get_or-append_right, get_or-drop, get_or-take}
use Rattle.paged_memory.specs.Pages.{page_of, flagged, marked}
use Rattle.paged_memory.specs.laws.Flags.{length-flagged, no_new_flag, marked_some, marked_none}

-- no bytes change nothing
pub nothing_written : (xs new : List ℕ) (at n : ℕ) → length new ≡ n → n ≡ 0 → take at xs ++ (new ++ drop (at + n) xs) ≡ xs
nothing_written xs new at n long none =
    let here : at + n ≡ at = omega arith in
    ap (λ (k : ℕ). take at xs ++ (new ++ drop k xs)) here
    ∙ ap (λ (x : List ℕ). take at xs ++ (x ++ drop at xs)) (nil_from_length new (long ∙ none))
    ∙ take-append-drop at xs

pub length_marked : (flags : List Bool) (at n : ℕ) → at + n ≤ 4096 * length flags → length (marked flags at n) ≡ length flags
length_marked flags at n within =
    elim (cases_eq n 0) [
      | inl none ↦ ap length (marked_none flags at n none (omega arith))
      | inr some ↦
          ap length (marked_some flags at n (omega arith))
          ∙ length-flagged flags (at / 4096) ((at + n - 1) / 4096 + 1) (omega arith) (omega arith)
    ]

pub length-page : (xs : List ℕ) (page : ℕ) → 4096 * page + 4096 ≤ length xs → length (page_of xs page) ≡ 4096
length-page xs page within =
    length-take-le (4096 * page + 4096 - 4096 * page) (drop (4096 * page) xs) (omega (arith, length-drop (4096 * page) xs)) ∙ omega arith

-- ---- bytes that were put somewhere

pub put_before : (xs new : List ℕ) (at n i : ℕ) → at ≤ length xs → i < at →
    get_or (take at xs ++ (new ++ drop (at + n) xs)) i 0 ≡ get_or xs i 0
put_before xs new at n i within below =
    get_or_append_left (take at xs) (new ++ drop (at + n) xs) 0 i (omega (arith, length-take-le at xs within)) ∙ get_or-take at xs i 0 below

pub put_after : (xs new : List ℕ) (at n i : ℕ) → length new ≡ n → at ≤ length xs → at + n ≤ i →
    get_or (take at xs ++ (new ++ drop (at + n) xs)) i 0 ≡ get_or xs i 0
put_after xs new at n i long within above =
    let place : at + n + (i - at - n) ≡ i = omega arith in
    get_or-append_right (take at xs) (new ++ drop (at + n) xs) at i 0 (length-take-le at xs within) (omega arith)
    ∙ get_or-append_right new (drop (at + n) xs) n (i - at) 0 long (omega arith)
    ∙ get_or-drop (at + n) xs (i - at - n) 0
    ∙ ap (λ (k : ℕ). get_or xs k 0) place

-- a byte of a page
pub byte_of_page : (xs : List ℕ) (page k : ℕ) → k < 4096 → get_or (page_of xs page) k 0 ≡ get_or xs (4096 * page + k) 0
byte_of_page xs page k small =
    get_or-take (4096 * page + 4096 - 4096 * page) (drop (4096 * page) xs) k 0 (omega arith) ∙ get_or-drop (4096 * page) xs k 0

-- a byte of a page without flag after a write is what it was
other_byte_some : (b new : List ℕ) (w : List Bool) (at n i : ℕ) → length new ≡ n → at + n ≤ length b → length b ≤ 4096 * length w → 1 ≤ n →
    get_or (marked w at n) (i / 4096) true ≡ false → get_or (take at b ++ (new ++ drop (at + n) b)) i 0 ≡ get_or b i 0
other_byte_some b new w at n i long fits whole least none =
    let clear : get_or (flagged w (at / 4096) ((at + n - 1) / 4096 + 1)) (i / 4096) true ≡ false =
    ap (λ (x : List Bool). get_or x (i / 4096) true) (sym (marked_some w at n least)) ∙ none in
    let parts = no_new_flag w (at / 4096) ((at + n - 1) / 4096 + 1) (i / 4096) (omega arith) (omega arith) clear in
    elim parts.0 [
      | inl before ↦ put_before b new at n i (omega arith) (omega arith)
      | inr after ↦ put_after b new at n i long (omega arith) (omega arith)
    ]

pub other_byte : (b c new : List ℕ) (w v : List Bool) (at n i : ℕ) → length new ≡ n → at + n ≤ length b → length b ≤ 4096 * length w →
    c ≡ take at b ++ (new ++ drop (at + n) b) → v ≡ marked w at n → get_or v (i / 4096) true ≡ false → get_or c i 0 ≡ get_or b i 0
other_byte b c new w v at n i long fits whole is flags none = ap (λ (x : List ℕ). get_or x i 0) is ∙ elim (cases_eq n 0) [
  | inl empty ↦ ap (λ (x : List ℕ). get_or x i 0) (nothing_written b new at n long empty)
  | inr least ↦
      other_byte_some b new w at n i long fits whole (omega arith) (sym (ap (λ (x : List Bool). get_or x (i / 4096) true) flags) ∙ none)
]
