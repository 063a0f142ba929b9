-- Pages that nothing was put into since boot have only zero bytes.
use Rattle.std.proofs.lemmas.Bool.{true≢false, cases_eq, cases_lt}
use Rattle.std.proofs.lemmas.{Grind.get_or-set_at, List.{get_or-set_other, get_or-replicate, get_or-append_right, get_or_past}}
use Rattle.std.proofs.lemmas.List.{get_or_append_left, length-replicate, length-append, Elements.All-from_get_or}
use Rattle.std.proofs.Common.{◌≡◌, ℕ, ◌+◌, ◌-◌, ◌*◌, ◌/◌, ◌<◌, ◌≤◌, ◌++◌, inl, inr, Bool, true, false, List, length, replicate}
use Rattle.std.proofs.{Common.{take, drop, get_or, All, refl, sym, ap, ◌∙◌, arith}, Math.ListN.set}
use Rattle.paged_memory.specs.{Pages.{page_of, is_written, flagged, marked, boot_bytes}, Stored.{is_touched, AreUntouched}}
use Rattle.paged_memory.specs.laws.Flags.{marked_some, no_new_flag}
use Rattle.paged_memory.proofs.PageLemmas.{byte_of_page, length-page, other_byte}

-- a page without flag is one that there is
pub flag_inside : (w : List Bool) (page : ℕ) → get_or w page true ≡ false → page < length w
flag_inside w page none = elim (cases_lt page (length w)) [
  | inl below ↦ below
  | inr past ↦ absurd (true≢false (sym (get_or_past w page true past) ∙ none))
]

-- a flag that is clear after another was set was so before
was_clear : (w : List Bool) (page q : ℕ) → page < length w → get_or (set w page true) q true ≡ false →
    (q ≡ page → ⊥) × (get_or w q true ≡ false)
was_clear w page q here none = elim (cases_eq q page) [
  | inl equal ↦ absurd (true≢false (sym (get_or-set_at w page q true true equal here) ∙ none))
  | inr apart ↦ (apart, sym (get_or-set_other w page q true true apart) ∙ none)
]

-- a page is kept, and gets both flags
pub untouched_by_keep : (b : List ℕ) (w t : List Bool) (page : ℕ) → page < length t → AreUntouched b w t →
    AreUntouched b (set w page true) (set t page true)
untouched_by_keep b w t page here is = record {
  unwritten = λ q none. let was = was_clear t page q here none in
      get_or-set_other w page q true true was.0 ∙ is.unwritten q was.1;
  zero = λ i none. is.zero i (was_clear t page (i / 4096) here none).1;
}

-- bytes of pages with the first flag change
pub untouched_by_write : (b c : List ℕ) (w t : List Bool) → ((i : ℕ) → is_written w (i / 4096) ≡ false → get_or c i 0 ≡ get_or b i 0) →
    AreUntouched b w t → AreUntouched c w t
untouched_by_write b c w t same is = record {
  unwritten = is.unwritten;
  zero = λ i none. same i (is.unwritten (i / 4096) none) ∙ is.zero i none;
}

-- some bytes change, and their pages get the second flag
pub untouched_by_touch : (b c new : List ℕ) (w t u : List Bool) (at n : ℕ) → 1 ≤ n → length new ≡ n → at + n ≤ length b →
    length b ≤ 4096 * length t → c ≡ take at b ++ (new ++ drop (at + n) b) → u ≡ marked t at n → AreUntouched b w t → AreUntouched c w u
untouched_by_touch b c new w t u at n some long fits whole put flags is = record {
  unwritten = λ page none. is.unwritten page (before page none);
  zero = λ i none. other_byte b c new t u at n i long fits whole put flags none ∙ is.zero i (before (i / 4096) none);
}
  where
    before : (page : ℕ) → is_touched u page ≡ false → is_touched t page ≡ false
    before page none =
        let clear : get_or (flagged t (at / 4096) ((at + n - 1) / 4096 + 1)) page true ≡ false =
        ap (λ (x : List Bool). get_or x page true) (sym (flags ∙ marked_some t at n some)) ∙ none in
        (no_new_flag t (at / 4096) ((at + n - 1) / 4096 + 1) page (omega arith) (omega arith) clear).1

-- the first flags are cleared
pub untouched_by_settle : (b : List ℕ) (w v t : List Bool) → v ≡ replicate (length w) false → length t ≡ length w → AreUntouched b w t →
    AreUntouched b v t
untouched_by_settle b w v t clear long is = record {
  unwritten = λ page none.
      let here : page < length w = omega (arith, flag_inside t page none, long) in
      ap (λ (x : List Bool). get_or x page true) clear ∙ get_or-replicate (length w) page false true here;
  zero = is.zero;
}

-- so many flags are set, and the others aren't
pub length_reached : (t : List Bool) (n k : ℕ) → t ≡ replicate k true ++ replicate (n - k) false → k ≤ n → length t ≡ n
length_reached t n k flags within =
    omega (
      arith,
      ap length flags,
      length-append (replicate k true) (replicate (n - k) false),
      length-replicate k true,
      length-replicate (n - k) false,
    )

-- at boot the pages that the image's bytes lie in have the second flag
pub untouched_at_boot : (b image : List ℕ) (w t : List Bool) (n k : ℕ) → b ≡ boot_bytes n image → w ≡ replicate n false →
    t ≡ replicate k true ++ replicate (n - k) false → length image ≤ 4096 * k → k ≤ n → AreUntouched b w t
untouched_at_boot b image w t n k bytes clear flags reached within = record {
  unwritten = λ page none.
      let here : page < n = omega (arith, flag_inside t page none, length_reached t n k flags within) in
      ap (λ (x : List Bool). get_or x page true) clear ∙ get_or-replicate n page false true here;
  zero = λ i none. zero_byte i (past (i / 4096) none);
}
  where
    past : (page : ℕ) → is_touched t page ≡ false → k ≤ page
    past page none = elim (cases_lt page k) [
      | inl below ↦ absurd (true≢false (sym (ap (λ (x : List Bool). get_or x page true) flags
          ∙ get_or_append_left (replicate k true) (replicate (n - k) false) true page (omega (arith, length-replicate k true))
          ∙ get_or-replicate k page true true below) ∙ none))
      | inr above ↦ above
    ]

    rest : (m j : ℕ) → ◌≡◌ {A = ℕ} (get_or (replicate m 0) j 0) 0
    rest m j = elim (cases_lt j m) [
      | inl below ↦ get_or-replicate m j 0 0 below
      | inr above ↦ get_or_past (replicate m 0) j 0 (omega (arith, length-replicate {A = ℕ} m 0))
    ]

    zero_byte : (i : ℕ) → k ≤ i / 4096 → get_or b i 0 ≡ 0
    zero_byte i above =
        ap (λ (x : List ℕ). get_or x i 0) bytes
        ∙ get_or-append_right image (replicate (4096 * n - length image) 0) (length image) i 0 refl (omega arith)
        ∙ rest (4096 * n - length image) (i - length image)

-- all bytes of a page without the second flag are 0
pub page_untouched : (b : List ℕ) (w t : List Bool) (page : ℕ) → 4096 * page + 4096 ≤ length b → is_touched t page ≡ false →
    AreUntouched b w t → All (λ b. b ≡ 0) (page_of b page)
page_untouched b w t page within none is =
    All-from_get_or (λ b. b ≡ 0) (page_of b page) 0
    (λ k here.
    let small : k < 4096 = omega (arith, here, length-page b page within) in
    let same : (4096 * page + k) / 4096 ≡ page = omega arith in
    byte_of_page b page k small
    ∙ is.zero (4096 * page + k) (ap (λ (q : ℕ). get_or t q true) same ∙ none))
