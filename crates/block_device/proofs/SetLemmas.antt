-- A set of sectors by its bits and by its rising list.
use Rattle.std.proofs.Common.{◌≡◌, ◌≢◌, ℕ, ◌+◌, ◌*◌, ◌/◌, ◌%◌, ◌^◌, ◌<◌, ◌≤◌, Bool, true, false, ◌&&◌, ◌||◌, ◌==◌, if◌then◌else◌, inl, inr}
use Rattle.std.proofs.Common.{List, [], ◌∷◌, refl, sym, ap, ◌∙◌, subst, length, nat_le, nat_lt, get_or, bit_or, arith, get_or-set_same}
use Rattle.std.proofs.{Common.get_or-set_other, Math.ListN.set, lemmas.Bool.{cases_eq, cases_order, and_parts, eq-eqb, ne_eqb, leb-true}}
use Rattle.std.{proofs.lemmas.{Bool.ltb-true, Nat.Bits.{bit_at_set_same, bit_at_set_other}}, specs.Int.bit_at}
use mir.Syntax.{w64}
use Rattle.block_device.specs.Dirty.{Rises, with_written, is_in, bit_of, IsSectorSet}
use Rattle.block_device.proofs.{Members.in_written, Rising.{rises_written, rises_at_most}}

-- ---- one word is written

-- a number that isn't another of the same word has another place in it
apart_in_word : (i s : ℕ) → i ≢ s → i / 64 ≡ s / 64 → i % 64 ≢ s % 64
apart_in_word i s apart same rest = apart (omega arith)

module _ (words : List ℕ) (s word : ℕ) (is : word ≡ get_or words (s / 64) 0) (within : s < 64 * length words) where
  abbrev more : ℕ
  more = bit_or word (1 * 2 ^ (s % 64) % 2 ^ 64)

  inside : s / 64 < length words
  inside = omega arith

  at_word : (i : ℕ) → i / 64 ≡ s / 64 → get_or (set words (s / 64) more) (i / 64) 0 ≡ more
  at_word i same =
      ap (λ k. get_or (set words (s / 64) more) k 0) same ∙ get_or-set_same words (s / 64) more 0 inside

  pub bit_set : (i : ℕ) → bit_of (set words (s / 64) more) i ≡ (if i == s then 1 else bit_of words i)
  bit_set i =
      elim (cases_eq i s) [
        | inl here ↦
            (let word_here : i / 64 ≡ s / 64 = ap (λ k. k / 64) here in
            let place : i % 64 ≡ s % 64 = ap (λ k. k % 64) here in
            ap (λ w. bit_at w (i % 64)) (at_word i word_here) ∙ ap (bit_at more) place
            ∙ bit_at_set_same w64 word (s % 64) (omega arith)
            ∙ sym (ap (λ b. if b then 1 else bit_of words i) (eq-eqb i s here)))
        | inr apart ↦ other i apart ∙ sym (ap (λ b. if b then 1 else bit_of words i) (ne_eqb i s apart))
      ]
    where
      other : (i : ℕ) → i ≢ s → bit_of (set words (s / 64) more) i ≡ bit_of words i
      other i apart =
          elim (cases_eq (i / 64) (s / 64)) [
            | inl same ↦
                ap (λ w. bit_at w (i % 64)) (at_word i same)
                ∙ bit_at_set_other w64 word (s % 64) (omega arith) (i % 64) (apart_in_word i s apart same)
                ∙ ap (λ w. bit_at w (i % 64)) (is ∙ ap (λ k. get_or words k 0) (sym same))
            | inr elsewhere ↦ ap (λ w. bit_at w (i % 64)) (get_or-set_other words (s / 64) (i / 64) more 0 elsewhere)
          ]

-- ---- rising lists with the same numbers are the same

first_in : (i : ℕ) (is : List ℕ) → is_in i (i ∷ is) ≡ true
first_in i is = ap (λ b. b || is_in i is) (eq-eqb i i refl)

not_below : (from end i : ℕ) (is : List ℕ) → Rises from end is → i < from → is_in i is ≡ false
not_below from end i [] h l = refl
not_below from end i (j ∷ js) h l =
    let least : from ≤ j = h.0 in
    ap (λ b. b || is_in i js) (ne_eqb i j (λ e. absurd (omega (arith, e)))) ∙ not_below (j + 1) end i js h.1 (omega arith)

differ : true ≡ false → ⊥
differ e = cc

rises_same : (from to end : ℕ) (xs ys : List ℕ) → Rises from end xs → Rises to end ys → ((i : ℕ) → is_in i xs ≡ is_in i ys) → xs ≡ ys
rises_same from to end [] [] h k same = refl
rises_same from to end [] (y ∷ ys) h k same = absurd (differ (sym (same y ∙ first_in y ys)))
rises_same from to end (x ∷ xs) [] h k same = absurd (differ (sym (first_in x xs) ∙ same x))
rises_same from to end (x ∷ xs) (y ∷ ys) h k same =
    elim (cases_order x y) [
      | inl here ↦
          ap (λ (z : ℕ). z ∷ xs) here
          ∙ ap (λ (zs : List ℕ). y ∷ zs) (rises_same (x + 1) (y + 1) end xs ys h.1 k.1 (tails here))
      | inr apart ↦ elim apart [
        | inl less ↦ absurd (differ (sym (first_in x xs) ∙ (same x ∙ not_below y end x (y ∷ ys) (omega arith, k.1) less)))
        | inr more ↦ absurd (differ (sym (first_in y ys) ∙ (sym (same y) ∙ not_below x end y (x ∷ xs) (omega arith, h.1) more)))
      ]
    ]
  where
    tails : x ≡ y → (i : ℕ) → is_in i xs ≡ is_in i ys
    tails here i =
        elim (cases_eq i x) [
          | inl this ↦
              not_below (x + 1) end i xs h.1 (omega arith) ∙ sym (not_below (y + 1) end i ys k.1 (omega arith))
          | inr other ↦
              sym (ap (λ b. b || is_in i xs) (ne_eqb i x other)) ∙ (same i
              ∙ ap (λ b. b || is_in i ys) (ne_eqb i y (λ e. other (e ∙ sym here))))
        ]

-- ---- sectors are put into a set

one_bit : (b : Bool) (n : ℕ) → n ≡ (if b then 1 else 0) → n ≡ 1 → b ≡ true
one_bit true n h e = refl
one_bit false n h e = absurd (omega arith)

in_already : (m r : Bool) → (r ≡ true → m ≡ true) → m ≡ (m || r)
in_already true r h = refl
in_already false true h = h refl
in_already false false h = refl

-- where all of them are in, nothing changes
pub put_none : (words list : List ℕ) (room first count : ℕ) → IsSectorSet words list room → first + count ≤ room →
    ((i : ℕ) → first ≤ i → i < first + count → bit_of words i ≡ 1) → list ≡ with_written list first count
put_none words list room first count set within all =
    rises_same 0 0 room list (with_written list first count) set.rises (rises_written room first count list within set.rises)
    (λ i. in_already (is_in i list) (nat_le first i && nat_lt i (first + count)) (here i) ∙ sym (in_written list first count i))
  where
    here : (i : ℕ) → (nat_le first i && nat_lt i (first + count)) ≡ true → is_in i list ≡ true
    here i inside =
        let parts = and_parts (nat_le first i) (nat_lt i (first + count)) inside in
        one_bit (is_in i list) (bit_of words i) (set.tells i) (all i (leb-true first i parts.0) (ltb-true i (first + count) parts.1))

either_bit : (m r : Bool) (one none : ℕ) → (if r then one else (if m then one else none)) ≡ (if m || r then one else none)
either_bit true true one none = refl
either_bit true false one none = refl
either_bit false true one none = refl
either_bit false false one none = refl

pub put_some : (words more list put : List ℕ) (room first count : ℕ) → IsSectorSet words list room → first + count ≤ room →
    ((i : ℕ) → bit_of more i ≡ (if nat_le first i && nat_lt i (first + count) then 1 else bit_of words i)) →
    length more ≡ length words → put ≡ with_written list first count → IsSectorSet more put room
put_some words more list put room first count set within bits same is = record {
  rises = subst (Rises 0 room) (sym is) (rises_written room first count list within set.rises);
  covers = let covers : room ≤ 64 * length words = set.covers in omega arith;
  tells = λ i.
      bits i ∙ ap (λ n. if nat_le first i && nat_lt i (first + count) then 1 else n) (set.tells i)
      ∙ either_bit (is_in i list) (nat_le first i && nat_lt i (first + count)) 1 0
      ∙ ap (λ b. if b then 1 else 0) (sym (ap (is_in i) is ∙ in_written list first count i));
}

-- each sector of the list has its bit in the words
pub listed_within : (words list : List ℕ) (room : ℕ) → IsSectorSet words list room → (k d : ℕ) → k < length list →
    get_or list k d < 64 * length words
listed_within words list room set k d within =
    let covers : room ≤ 64 * length words = set.covers in
    let below = rises_at_most 0 room list k d set.rises within in
    omega arith
