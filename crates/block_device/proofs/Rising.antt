-- Rising lists, and their parts below and above a number.
use Rattle.std.proofs.Common.{◌≡◌, ℕ, zero, suc, ◌+◌, ◌<◌, ◌≤◌, Bool, true, false, List, [], ◌∷◌, ◌++◌, refl, sym, ap, ◌∙◌, length, take}
use Rattle.std.proofs.Common.{drop, get_or, arith, filter, nat_lt, nat_le, cond, subst, ◌⊎◌, inl, inr, take-append-drop, append-nil}
use Rattle.std.proofs.Common.{length-take-le, length-drop, get_or-take, get_or-drop, append_assoc, length-append, map-id, ◌-◌}
use Rattle.std.proofs.lemmas.List.{take_at, drop_at, FromFn.{length-range_with_len, map-range_with_len_more}, Elements.filter-append}
use Rattle.std.{proofs.lemmas.Bool.Decides.nat_tests, specs.List.{range_with_len, AllWithin, Sorted.IsNonDecreasingBy}}
use Rattle.block_device.specs.Dirty.{Rises, with_written}

-- a rising list may begin lower, and end higher
pub rises_lower : (from lower end : ℕ) (is : List ℕ) → lower ≤ from → Rises from end is → Rises lower end is
rises_lower from lower end [] l h = omega arith
rises_lower from lower end (i ∷ is) l h = let least : from ≤ i = h.0 in (omega arith, h.1)

pub rises_higher : (from end higher : ℕ) (is : List ℕ) → end ≤ higher → Rises from end is → Rises from higher is
rises_higher from end higher [] l h = omega arith
rises_higher from end higher (i ∷ is) l h = (h.0, rises_higher (i + 1) end higher is l h.1)

-- each number of a rising list is at least `from`, and later ones are greater
rises_least : (from end : ℕ) (is : List ℕ) (k d : ℕ) → Rises from end is → k < length is → from ≤ get_or is k d
rises_least from end [] k d h l = absurd (omega arith)
rises_least from end (i ∷ is) zero d h l = h.0
rises_least from end (i ∷ is) (suc k) d h l =
    let within : k < length is = omega arith in
    let rest = rises_least (i + 1) end is k d h.1 within in
    let least : from ≤ i = h.0 in
    omega arith

-- a rising list is no longer than its numbers allow
pub rises_length : (from end : ℕ) (is : List ℕ) → Rises from end is → from + length is ≤ end
rises_length from end [] h = let ordered : from ≤ end = h in omega arith
rises_length from end (i ∷ is) h =
    let least : from ≤ i = h.0 in
    let rest = rises_length (i + 1) end is h.1 in
    omega arith

-- and below `end`
pub rises_at_most : (from end : ℕ) (is : List ℕ) (k d : ℕ) → Rises from end is → k < length is → get_or is k d < end
rises_at_most from end [] k d h l = absurd (omega arith)
rises_at_most from end (i ∷ is) zero d h l =
    let room = rises_length (i + 1) end is h.1 in
    omega arith
rises_at_most from end (i ∷ is) (suc k) d h l = rises_at_most (i + 1) end is k d h.1 (omega arith)

pub rises_nondecreasing : (from end : ℕ) (is : List ℕ) → Rises from end is → IsNonDecreasingBy (λ x. x) is
rises_nondecreasing from end [] h j k d l w = absurd (omega arith)
rises_nondecreasing from end (i ∷ is) h zero zero d l w = omega arith
rises_nondecreasing from end (i ∷ is) h zero (suc k) d l w =
    let within : k < length is = omega arith in
    let rest = rises_least (i + 1) end is k d h.1 within in
    omega arith
rises_nondecreasing from end (i ∷ is) h (suc j) zero d l w = absurd (omega arith)
rises_nondecreasing from end (i ∷ is) h (suc j) (suc k) d l w = rises_nondecreasing (i + 1) end is h.1 j k d (omega arith) (omega arith)

-- ---- a list that a test parts

lt_not_le : (y s : ℕ) → nat_lt y s ≡ true → nat_le s y ≡ false
lt_not_le y s h = grind (arith, nat_tests)

not_lt_le : (y s : ℕ) → nat_lt y s ≡ false → nat_le s y ≡ true
not_lt_le y s h = grind (arith, nat_tests)

all_kept : (p : ℕ → Bool) (xs : List ℕ) → ((k d : ℕ) → k < length xs → p (get_or xs k d) ≡ true) → filter p xs ≡ xs
all_kept p [] h = refl
all_kept p (x ∷ xs) h =
    let here : p x ≡ true = h zero x (omega arith) in
    let rest = all_kept p xs (λ k d l. h (suc k) d (omega arith)) in
    ap (λ b. cond b (x ∷ filter p xs) (filter p xs)) here ∙ ap (λ ys. x ∷ ys) rest

none_kept : (p : ℕ → Bool) (xs : List ℕ) → ((k d : ℕ) → k < length xs → p (get_or xs k d) ≡ false) → filter p xs ≡ []
none_kept p [] h = refl
none_kept p (x ∷ xs) h =
    let here : p x ≡ false = h zero x (omega arith) in
    ap (λ b. cond b (x ∷ filter p xs) (filter p xs)) here ∙ none_kept p xs (λ k d l. h (suc k) d (omega arith))

-- the numbers of a rising list below a number are its first ones, and those from it on the others
module _ (xs : List ℕ) (n s : ℕ) (within : n ≤ length xs)
    (below : AllWithin (λ y. nat_lt y s ≡ true) xs 0 n) (above : AllWithin (λ y. nat_lt y s ≡ false) xs n (length xs)) where
  front : (k d : ℕ) → k < length (take n xs) → nat_lt (get_or (take n xs) k d) s ≡ true
  front k d l =
      let early : k < n = omega (arith, length-take-le n xs within) in
      ap (λ y. nat_lt y s) (get_or-take n xs k d early) ∙ below k d (omega arith) early

  back : (k d : ℕ) → k < length (drop n xs) → nat_lt (get_or (drop n xs) k d) s ≡ false
  back k d l =
      let late : n + k < length xs = omega (arith, length-drop n xs) in
      ap (λ y. nat_lt y s) (get_or-drop n xs k d) ∙ above (n + k) d (omega arith) late

  along : (p : ℕ → Bool) → filter p xs ≡ filter p (take n xs) ++ filter p (drop n xs)
  along p = ap (filter p) (sym (take-append-drop n xs)) ∙ filter-append p (take n xs) (drop n xs)

  pub parted_below : take n xs ≡ filter (λ i. nat_lt i s) xs
  parted_below =
      let p : ℕ → Bool = λ i. nat_lt i s in
      sym (along p ∙ (ap (λ ys. ys ++ filter p (drop n xs)) (all_kept p (take n xs) front)
      ∙ (ap (λ ys. take n xs ++ ys) (none_kept p (drop n xs) back) ∙ append-nil (take n xs))))

  pub parted_above : drop n xs ≡ filter (λ i. nat_le s i) xs
  parted_above =
      let p : ℕ → Bool = λ i. nat_le s i in
      sym (along p ∙ (ap (λ ys. ys ++ filter p (drop n xs))
      (none_kept p (take n xs) (λ k d l. lt_not_le (get_or (take n xs) k d) s (front k d l)))
      ∙ all_kept p (drop n xs) (λ k d l. not_lt_le (get_or (drop n xs) k d) s (back k d l))))

-- ---- the parts of a rising list rise

lt_tells : (i s : ℕ) → ((nat_lt i s ≡ true) × (i < s)) ⊎ ((nat_lt i s ≡ false) × (s ≤ i))
lt_tells i s = grind (arith, nat_tests)

le_tells : (s i : ℕ) → ((nat_le s i ≡ true) × (s ≤ i)) ⊎ ((nat_le s i ≡ false) × (i < s))
le_tells s i = grind (arith, nat_tests)

below_tells : (i s : ℕ) → i < s → nat_lt i s ≡ true
below_tells i s h = grind (arith, nat_tests)

not_below : (y s : ℕ) → s ≤ y → nat_lt y s ≡ false
not_below y s h = grind (arith, nat_tests)

-- one number more goes through a test, or not
kept : (p : ℕ → Bool) (i : ℕ) (is : List ℕ) → p i ≡ true → filter p (i ∷ is) ≡ i ∷ filter p is
kept p i is h = ap (λ b. cond b (i ∷ filter p is) (filter p is)) h

lost : (p : ℕ → Bool) (i : ℕ) (is : List ℕ) → p i ≡ false → filter p (i ∷ is) ≡ filter p is
lost p i is h = ap (λ b. cond b (i ∷ filter p is) (filter p is)) h

none_below : (from end s : ℕ) (is : List ℕ) → s ≤ from → Rises from end is → filter (λ i. nat_lt i s) is ≡ []
none_below from end s is l h =
    none_kept (λ i. nat_lt i s) is (λ k d w. not_below (get_or is k d) s (let least = rises_least from end is k d h w in omega arith))

pub two_ways : (b : Bool) → (b ≡ true) ⊎ (b ≡ false)
two_ways true = inl refl
two_ways false = inr refl

rises_kept : (p : ℕ → Bool) (from end : ℕ) (is : List ℕ) → Rises from end is → Rises from end (filter p is)
rises_kept p from end [] h = h
rises_kept p from end (i ∷ is) h =
    elim (two_ways (p i)) [
      | inl e ↦ subst (Rises from end) (sym (kept p i is e)) (h.0, rises_kept p (i + 1) end is h.1)
      | inr e ↦
          (let least : from ≤ i = h.0 in
          subst (Rises from end) (sym (lost p i is e))
          (rises_lower (i + 1) from end (filter p is) (omega arith) (rises_kept p (i + 1) end is h.1)))
    ]

pub rises_below : (from end s : ℕ) (is : List ℕ) → from ≤ s → Rises from end is → Rises from s (filter (λ i. nat_lt i s) is)
rises_below from end s [] l h = l
rises_below from end s (i ∷ is) l h =
    elim (lt_tells i s) [
      | inl w ↦
          (let below : i < s = w.1 in
          subst (Rises from s) (sym (kept (λ i. nat_lt i s) i is w.0)) (h.0, rises_below (i + 1) end s is (omega arith) h.1))
      | inr w ↦
          (let least : from ≤ i = h.0 in
          let above : s ≤ i = w.1 in
          subst (Rises from s) (sym (lost (λ i. nat_lt i s) i is w.0 ∙ none_below (i + 1) end s is (omega arith) h.1)) l)
    ]

pub rises_above : (from end s : ℕ) (is : List ℕ) → s ≤ end → Rises from end is → Rises s end (filter (λ i. nat_le s i) is)
rises_above from end s [] l h = l
rises_above from end s (i ∷ is) l h =
    elim (le_tells s i) [
      | inl w ↦ subst (Rises s end) (sym (kept (λ i. nat_le s i) i is w.0)) (w.1, rises_kept (λ i. nat_le s i) (i + 1) end is h.1)
      | inr w ↦ subst (Rises s end) (sym (lost (λ i. nat_le s i) i is w.0)) (rises_above (i + 1) end s is l h.1)
    ]

rises_append : (from mid end : ℕ) (xs ys : List ℕ) → Rises from mid xs → Rises mid end ys → Rises from end (xs ++ ys)
rises_append from mid end [] ys h k = rises_lower mid from end ys (rises_ordered from mid h) k
  where
    rises_ordered : (from mid : ℕ) → Rises from mid [] → from ≤ mid
    rises_ordered from mid h = h
rises_append from mid end (x ∷ xs) ys h k = (h.0, rises_append (x + 1) mid end xs ys h.1 k)

rises_range : (first n : ℕ) → Rises first (first + n) (range_with_len first n)
rises_range first zero = omega arith
rises_range first (suc n) =
    let end : first + 1 + n ≡ first + suc n = omega arith in
    (omega arith, subst (λ (e : ℕ). Rises (first + 1) e (range_with_len (first + 1) n)) end (rises_range (first + 1) n))

-- a list still rises after sectors were written
pub rises_written : (end first n : ℕ) (is : List ℕ) → first + n ≤ end → Rises 0 end is → Rises 0 end (with_written is first n)
rises_written end first n is l h =
    rises_append 0 (first + n) end (filter (λ i. nat_lt i first) is ++ range_with_len first n) (filter (λ i. nat_le (first + n) i) is)
    (rises_append 0 first (first + n) (filter (λ i. nat_lt i first) is) (range_with_len first n)
    (rises_below 0 end first is (omega arith) h) (rises_range first n))
    (rises_above 0 end (first + n) is l h)

-- ---- how the list is written in place

fewer_below : (a b : ℕ) (is : List ℕ) → a ≤ b → length (filter (λ i. nat_lt i a) is) ≤ length (filter (λ i. nat_lt i b) is)
fewer_below a b [] l = omega arith
fewer_below a b (i ∷ is) l =
    let below_a : ℕ → Bool = λ k. nat_lt k a in
    let below_b : ℕ → Bool = λ k. nat_lt k b in
    let rest = fewer_below a b is l in
    elim (lt_tells i a) [
      | inl w ↦
          (let small : i < b = let before : i < a = w.1 in omega arith in
          let one = ap length (kept below_a i is w.0) in
          let two = ap length (kept below_b i is (below_tells i b small)) in
          omega arith)
      | inr w ↦
          (let one = ap length (lost below_a i is w.0) in
          elim (two_ways (below_b i)) [
            | inl e ↦ (let two = ap length (kept below_b i is e) in omega arith)
            | inr e ↦ (let two = ap length (lost below_b i is e) in omega arith)
          ])
    ]

-- a rising list, with the places of the first of its numbers that aren't below a range, and of the first that are above it
pub record Parted (xs : List ℕ) (first n end from to : ℕ) : Type 0 where
  pub rises : Rises 0 end xs
  pub room : first + n ≤ end
  pub below_first : take from xs ≡ filter (λ i. nat_lt i first) xs
  pub below_last : take to xs ≡ filter (λ i. nat_lt i (first + n)) xs
  pub above_last : drop to xs ≡ filter (λ i. nat_le (first + n) i) xs
  pub from_within : from ≤ length xs
  pub to_within : to ≤ length xs

module _ (xs : List ℕ) (first n end from to : ℕ) (p : Parted xs first n end from to) where
  below_len : length (filter (λ i. nat_lt i first) xs) ≡ from
  below_len = ap length (sym p.below_first) ∙ length-take-le from xs p.from_within

  above_len : length (filter (λ i. nat_le (first + n) i) xs) ≡ length xs - to
  above_len = ap length (sym p.above_last) ∙ length-drop to xs

  pub from_before_to : from ≤ to
  from_before_to =
      let fewer = fewer_below first (first + n) xs (omega arith) in
      let last = ap length (sym p.below_last) ∙ length-take-le to xs p.to_within in
      omega (arith, below_len)

  written_len : length (with_written xs first n) ≡ from + n + (length xs - to)
  written_len =
      omega (
        arith,
        below_len,
        above_len,
        length-range_with_len first n,
        length-append (filter (λ i. nat_lt i first) xs) (range_with_len first n),
        length-append (filter (λ i. nat_lt i first) xs ++ range_with_len first n) (filter (λ i. nat_le (first + n) i) xs),
      )

  pub room_for_range : length (take from xs ++ drop to xs) + n ≤ end
  room_for_range =
      let most = rises_length 0 end (with_written xs first n) (rises_written end first n xs p.room p.rises) in
      omega (arith, written_len, length-append (take from xs) (drop to xs), length-take-le from xs p.from_within, length-drop to xs)

  -- the range was put last, and then moved to its place
  pub moved_in : (list : List ℕ) → list ≡ take from xs ++ drop to xs ++ range_with_len first n →
      take from list ++ (drop (length list - n) list ++ take (length list - n - from) (drop from list)) ≡ with_written xs first n
  moved_in list is =
      let range : List ℕ = range_with_len first n in
      let lower : List ℕ = take from xs in
      let last : List ℕ = drop to xs in
      let lower_len : length lower ≡ from = length-take-le from xs p.from_within in
      let len : length list ≡ from + length last + n =
      omega (
        arith,
        ap length is,
        lower_len,
        length-append lower last,
        length-append (lower ++ last) range,
        length-range_with_len first n,
      ) in
      let joined : list ≡ lower ++ (last ++ range) = is ∙ append_assoc lower last range in
      let front : take from list ≡ lower = ap (take from) joined ∙ take_at lower (last ++ range) from lower_len in
      let behind : drop from list ≡ last ++ range = ap (drop from) joined ∙ drop_at lower (last ++ range) from lower_len in
      let mid_len : length (lower ++ last) ≡ length list - n = omega (arith, len, lower_len, length-append lower last) in
      let middle : drop (length list - n) list ≡ range = ap (drop (length list - n)) is
      ∙ drop_at (lower ++ last) range (length list - n) mid_len in
      let tail_len : length last ≡ length list - n - from = omega (arith, len) in
      let tail : take (length list - n - from) (drop from list) ≡ last =
      ap (take (length list - n - from)) behind ∙ take_at last range (length list - n - from) tail_len in
      ap (λ ys. ys ++ (drop (length list - n) list ++ take (length list - n - from) (drop from list))) front
      ∙ (ap (λ ys. lower ++ (ys ++ take (length list - n - from) (drop from list))) middle
      ∙ (ap (λ ys. lower ++ (range ++ ys)) tail
      ∙ (sym (append_assoc lower range last)
      ∙ (ap (λ ys. ys ++ range ++ last) p.below_first ∙ ap (λ ys. filter (λ i. nat_lt i first) xs ++ range ++ ys) p.above_last))))

-- one number more
pub range_more : (first n : ℕ) → range_with_len first n ++ (first + n) ∷ [] ≡ range_with_len first (n + 1)
range_more first n = ap (λ ys. ys ++ (first + n) ∷ []) (sym (map-id (range_with_len first n)))
    ∙ (sym (map-range_with_len_more (λ x. x) first n (first + n) refl) ∙ map-id (range_with_len first (n + 1)))
