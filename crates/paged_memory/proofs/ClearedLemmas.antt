-- Pages whose bytes become 0, one after the other.
use Rattle.std.proofs.lemmas.Bool.{cases_eq, cases_lt}
use Rattle.std.proofs.lemmas.{Grind.get_or-set_at, List.{ext_get_or, get_or-set_other, get_or-replicate, get_or_append_left, get_or-append_right}}
use Rattle.std.proofs.lemmas.List.{length-set, length-replicate, length-take-le}
use Rattle.std.proofs.Common.{◌≡◌, ℕ, ◌+◌, ◌-◌, ◌*◌, ◌/◌, ◌<◌, ◌≤◌, ◌++◌, inl, inr, Bool, true, false, List, length, replicate}
use Rattle.std.proofs.{Common.{take, drop, get_or, refl, sym, ap, ◌∙◌, arith}, Math.ListN.set}
use Rattle.paged_memory.specs.{Bytes.with_bytes, Stored.is_touched}
use Rattle.paged_memory.specs.laws.Bytes.{length_overwritten}
use Rattle.paged_memory.proofs.PageLemmas.{put_before, put_after}

-- of so many pages those below one have no flag any more, and a page without a flag has only zero bytes
pub record AreCleared (b : List ℕ) (t : List Bool) (n page : ℕ) : Type 0 where
  pub whole : length b ≡ 4096 * n
  pub flags : length t ≡ n
  pub below : (q : ℕ) → q < page → is_touched t q ≡ false
  pub zero : (i : ℕ) → is_touched t (i / 4096) ≡ false → get_or b i 0 ≡ 0

-- none of them is looked at yet
pub none_cleared : (b : List ℕ) (t : List Bool) (n : ℕ) → length b ≡ 4096 * n → length t ≡ n →
    ((i : ℕ) → is_touched t (i / 4096) ≡ false → get_or b i 0 ≡ 0) → AreCleared b t n 0
none_cleared b t n whole flags zero = record { whole = whole; flags = flags; below = λ q less. absurd (omega (arith, less)); zero = zero }

-- one that has no flag is passed over
pub one_passed : (b c : List ℕ) (t u : List Bool) (n page : ℕ) → is_touched t page ≡ false → c ≡ b → u ≡ t → AreCleared b t n page →
    AreCleared c u n (page + 1)
one_passed b c t u n page none same_bytes same_flags is = record {
  whole = ap length same_bytes ∙ is.whole;
  flags = ap length same_flags ∙ is.flags;
  below = λ q less. flag q ∙ elim (cases_eq q page) [
    | inl same ↦ ap (λ (k : ℕ). is_touched t k) same ∙ none
    | inr apart ↦ is.below q (omega (arith, less, apart))
  ];
  zero = λ i clear. ap (λ (x : List ℕ). get_or x i 0) same_bytes ∙ is.zero i (sym (flag (i / 4096)) ∙ clear);
}
  where
    flag : (q : ℕ) → is_touched u q ≡ is_touched t q
    flag q = ap (λ (x : List Bool). get_or x q true) same_flags

-- a byte of a page that was filled
filled_byte : (b : List ℕ) (page i : ℕ) → 4096 * page + 4096 ≤ length b → i / 4096 ≡ page →
    get_or (with_bytes b (4096 * page) (replicate 4096 0)) i 0 ≡ 0
filled_byte b page i within same =
    let zeros : List ℕ = replicate 4096 0 in
    let long : length zeros ≡ 4096 = length-replicate {A = ℕ} 4096 0 in
    get_or-append_right (take (4096 * page) b) (zeros ++ drop (4096 * page + length zeros) b) (4096 * page) i 0
    (length-take-le (4096 * page) b (omega arith)) (omega arith)
    ∙ get_or_append_left zeros (drop (4096 * page + length zeros) b) 0 (i - 4096 * page) (omega arith)
    ∙ get_or-replicate 4096 (i - 4096 * page) 0 0 (omega arith)

-- a byte of another page
unfilled_byte : (b : List ℕ) (page i : ℕ) → 4096 * page + 4096 ≤ length b → (i / 4096 ≡ page → ⊥) →
    get_or (with_bytes b (4096 * page) (replicate 4096 0)) i 0 ≡ get_or b i 0
unfilled_byte b page i within apart =
    let zeros : List ℕ = replicate 4096 0 in
    let long : length zeros ≡ 4096 = length-replicate {A = ℕ} 4096 0 in
    elim (cases_lt i (4096 * page)) [
      | inl before ↦ put_before b zeros (4096 * page) (length zeros) i (omega arith) before
      | inr from ↦ put_after b zeros (4096 * page) (length zeros) i refl (omega arith) (omega (arith, from, apart, long))
    ]

-- one that has a flag is filled with zeros, and its flag goes
pub one_filled : (b c : List ℕ) (t u : List Bool) (n page : ℕ) → page < n → c ≡ with_bytes b (4096 * page) (replicate 4096 0) →
    u ≡ set t page false → AreCleared b t n page → AreCleared c u n (page + 1)
one_filled b c t u n page here filled cleared is = record {
  whole = ap length filled
      ∙ length_overwritten b (replicate 4096 0) (4096 * page) (length {A = ℕ} (replicate 4096 0))
      (omega (arith, here, is.whole, length-replicate {A = ℕ} 4096 0)) refl
      ∙ is.whole;
  flags = ap length cleared ∙ length-set t page false ∙ is.flags;
  below = λ q less. flag q ∙ elim (cases_eq q page) [
    | inl same ↦ get_or-set_at t page q false true same (omega (arith, here, is.flags))
    | inr apart ↦ get_or-set_other t page q false true apart ∙ is.below q (omega (arith, less, apart))
  ];
  zero = λ i none. ap (λ (x : List ℕ). get_or x i 0) filled ∙ elim (cases_eq (i / 4096) page) [
    | inl same ↦ filled_byte b page i within same
    | inr apart ↦ unfilled_byte b page i within apart
        ∙ is.zero i (sym (flag (i / 4096) ∙ get_or-set_other t page (i / 4096) false true apart) ∙ none)
  ];
}
  where
    within : 4096 * page + 4096 ≤ length b
    within = omega (arith, here, is.whole)

    flag : (q : ℕ) → is_touched u q ≡ get_or (set t page false) q true
    flag q = ap (λ (x : List Bool). get_or x q true) cleared

-- after the last no page has a flag
pub no_flag_left : (b : List ℕ) (t : List Bool) (n page : ℕ) → n ≤ page → AreCleared b t n page → t ≡ replicate n false
no_flag_left b t n page end is =
    ext_get_or true t (replicate n false) (is.flags ∙ sym (length-replicate n false))
    (λ q here.
    let below : q < n = omega (arith, here, is.flags) in
    is.below q (omega (arith, below, end)) ∙ sym (get_or-replicate n q false true below))

-- and each byte is 0
pub no_byte_left : (b : List ℕ) (t : List Bool) (n page : ℕ) → n ≤ page → AreCleared b t n page → b ≡ replicate (length b) 0
no_byte_left b t n page end is =
    ext_get_or 0 b (replicate (length b) 0) (sym (length-replicate {A = ℕ} (length b) 0))
    (λ i here. is.zero i (is.below (i / 4096) (omega (arith, here, end, is.whole))) ∙ sym (get_or-replicate (length b) i 0 0 here))
