-- What a cut records of memory is a canonical checkpoint's.
use Rattle.std.proofs.Common.{◌≡◌, ◌≢◌, ℕ, zero, suc, ◌+◌, ◌*◌, ◌^◌, ◌<◌, ◌≤◌, ◌==◌, ◌&&◌, ◌||◌, not, Bool, true, false, cond, List, []}
use Rattle.std.proofs.{Common.{◌∷◌, length, map, get_or, refl, sym, ap, ◌∙◌, arith, subst, length-append}, lemmas.Bool.{eqb-true, eq-eqb}}
use Rattle.std.proofs.lemmas.{Bool.true≢false, List.{length-map, Elements.filter_passes, Sums.sum_by-cons}}
use Rattle.std.specs.{Prelude.{All, IsTrue, count_ones}, List.{range_with_len, filter}, Int.Bits.{bit_xor, xor_zero_r}}
use Rattle.guest_rules.specs.Dirty.{Rises}
use Rattle.epoch_snapshot.specs.{declared.changes.PageChange.PageChange, Blocks.{is_zero, set_blocks, block_numbers, xored, differ}}
use Rattle.epoch_snapshot.specs.{Blocks.{block_in, block_differs}, Checkpoints.block_count, Cuts.{page_change, is_changed, changed_pages}}
use Rattle.epoch_snapshot.specs.Cuts.{block_change, changed_blocks}
use Rattle.epoch_snapshot.specs.laws.{Masks.{length-set_blocks, changed_mask-lt}, Xored.xor_twice, Cuts.block_numbers-changed}

-- ---- rising numbers

rises_by : (b : Bool) (from end i : ℕ) (is : List ℕ) → from ≤ i → Rises (i + 1) end is → Rises from end is →
    Rises from end (cond b (i ∷ is) is)
rises_by true from end i is low some none = (low, some)
rises_by false from end i is low some none = none

pub Rises-from_less : (from less end : ℕ) (is : List ℕ) → less ≤ from → Rises from end is → Rises less end is
Rises-from_less from less end [] low h = omega arith
Rises-from_less from less end (i ∷ is) low h = (omega (arith, h.0), h.1)

-- numbers that a test keeps of a range rise
pub Rises-filter : (p : ℕ → Bool) (s n end : ℕ) → s + n ≤ end → Rises s end (filter p (range_with_len s n))
Rises-filter p s zero end within = omega arith
Rises-filter p s (suc n) end within =
    let later : Rises (s + 1) end (filter p (range_with_len (s + 1) n)) = Rises-filter p (s + 1) n end (omega arith) in
    rises_by (p s) s end s (filter p (range_with_len (s + 1) n)) (omega arith) later
    (Rises-from_less (s + 1) s end (filter p (range_with_len (s + 1) n)) (omega arith) later)

kept_by : {X : Type 0} (f : ℕ → X) (g : X → ℕ) (b : Bool) (i : ℕ) (xs : List X) (is : List ℕ) → g (f i) ≡ i → map g xs ≡ is →
    map g (cond b (f i ∷ xs) xs) ≡ cond b (i ∷ is) is
kept_by f g true i xs is e rest = λ k. e k ∷ rest k
kept_by f g false i xs is e rest = rest

-- what a test keeps of things made of numbers, as those numbers
pub numbers-filter : {X : Type 0} (f : ℕ → X) (g : X → ℕ) (p : X → Bool) → ((i : ℕ) → g (f i) ≡ i) → (s n : ℕ) →
    map g (filter p (map f (range_with_len s n))) ≡ filter (λ i. p (f i)) (range_with_len s n)
numbers-filter f g p e s zero = refl
numbers-filter f g p e s (suc n) =
    kept_by f g (p (f s)) s (filter p (map f (range_with_len (s + 1) n))) (filter (λ i. p (f i)) (range_with_len (s + 1) n)) (e s)
    (numbers-filter f g p e (s + 1) n)

-- ---- pages

pub Rises-changed : (old new : List ℕ) (n : ℕ) → Rises 0 n (map (λ (p : PageChange). p.page) (changed_pages old new n))
unfolding changed_pages
Rises-changed old new n =
    let e = numbers-filter (page_change old new) (λ (p : PageChange). p.page) is_changed (λ i. refl) 0 n in
    subst (Rises 0 n) (sym e) (Rises-filter (λ i. is_changed (page_change old new i)) 0 n n (omega arith))

not_zero : (m : ℕ) → not (m == 0) ≡ true → m ≢ 0
not_zero m e z = true≢false (sym e ∙ ap not (eq-eqb m 0 z))

pub masks-changed : (old new : List ℕ) (n : ℕ) → All (λ (p : PageChange). p.mask ≢ 0) (changed_pages old new n)
unfolding changed_pages
masks-changed old new n = λ k d within. not_zero (get_or (changed_pages old new n) k d).mask
    (filter_passes is_changed (map (page_change old new) (range_with_len 0 n)) k d within)

-- ---- blocks

length_by : (b : Bool) (p : PageChange) (ps : List PageChange) → p.mask < 2 ^ 64 → length (block_numbers ps) ≡ block_count ps →
    length (block_numbers (cond b (p ∷ ps) ps)) ≡ block_count (cond b (p ∷ ps) ps)
unfolding block_numbers
length_by true p ps fits rest =
    length-append (map (λ i. 64 * p.page + i) (set_blocks p.mask)) (block_numbers ps)
    ∙ (λ k. (length-map (set_blocks p.mask) (λ i. 64 * p.page + i) ∙ length-set_blocks p.mask fits) k + rest k)
    ∙ sym (sum_by-cons (λ (q : PageChange). count_ones q.mask) p ps)
length_by false p ps fits rest = rest

length_from : (old new : List ℕ) (s n : ℕ) → length (block_numbers (filter is_changed (map (page_change old new) (range_with_len s n)))) ≡
    block_count (filter is_changed (map (page_change old new) (range_with_len s n)))
unfolding block_numbers
length_from old new s zero = refl
length_from old new s (suc n) =
    length_by (is_changed (page_change old new s)) (page_change old new s)
    (filter is_changed (map (page_change old new) (range_with_len (s + 1) n))) (changed_mask-lt old new s) (length_from old new (s + 1) n)

-- a cut has as many blocks as its pages' masks have ones
pub length-changed_blocks : (old new : List ℕ) (n : ℕ) → length (changed_blocks old new (changed_pages old new n)) ≡
    block_count (changed_pages old new n)
unfolding changed_pages
length-changed_blocks old new n =
    length-map (block_numbers (changed_pages old new n)) (block_change old new) ∙ length_from old new 0 n

xor_nonzero : (x y : ℕ) (b : Bool) → (x == y) ≡ b → not b ≡ true → (c : Bool) → (bit_xor x y == 0) ≡ c → c ≡ false
xor_nonzero x y true e f c g = absurd (true≢false (sym f))
xor_nonzero x y false e f false g = refl
xor_nonzero x y false e f true g =
    absurd (true≢false (sym (eq-eqb x y (sym (xor_zero_r x) ∙ ap (bit_xor x) (sym (eqb-true (bit_xor x y) 0 g)) ∙ xor_twice x y)) ∙ e))

and_false : (b : Bool) → (b && false) ≡ false
and_false true = refl
and_false false = refl

nonzero_by : (b c d e : Bool) → (b || c) ≡ true → (b ≡ true → d ≡ false) → (c ≡ true → e ≡ false) → (d && e) ≡ false
nonzero_by true c d e h f g = ap (λ k. k && e) (f refl)
nonzero_by false true d e h f g = ap (λ k. d && k) (g refl) ∙ and_false d
nonzero_by false false d e h f g = absurd (true≢false (sym h))

-- two blocks that differ have an XOR that isn't all zero
pub is_zero-xored : (xs ys : List ℕ) → differ xs ys ≡ true → is_zero (xored xs ys) ≡ false
is_zero-xored [] ys h = absurd (true≢false (sym h))
is_zero-xored (x ∷ xs) [] h = absurd (true≢false (sym h))
is_zero-xored (x ∷ xs) (y ∷ ys) h =
    nonzero_by (not (x == y)) (differ xs ys) (bit_xor x y == 0) (is_zero (xored xs ys)) h
    (λ e. xor_nonzero x y (x == y) refl e (bit_xor x y == 0) refl) (is_zero-xored xs ys)

pub all_mapped : {X : Type 0} (f : ℕ → X) (q : X → Bool) (ns : List ℕ) → All (λ n. q (f n) ≡ true) ns → All (λ x. IsTrue (q x)) (map f ns)
all_mapped f q [] h k d within = absurd (omega arith)
all_mapped f q (n ∷ ns) h zero d within = h 0 0 (omega arith)
all_mapped f q (n ∷ ns) h (suc k) d within = all_mapped f q ns (λ j e inside. h (suc j) e (omega arith)) k d (omega arith)

-- no block of a cut is all zero
pub blocks-changed : (old new : List ℕ) (n : ℕ) → All (λ b. IsTrue (not (is_zero b))) (changed_blocks old new (changed_pages old new n))
blocks-changed old new n =
    let e = block_numbers-changed old new n in
    let F : List ℕ → Type 0 = λ ns. All (λ b. IsTrue (not (is_zero b))) (map (block_change old new) ns) in
    subst F (sym e)
    (all_mapped (block_change old new) (λ b. not (is_zero b)) (filter (block_differs old new) (range_with_len 0 (64 * n)))
    (λ k d within. ap not (is_zero-xored (block_in old (get_or (filter (block_differs old new) (range_with_len 0 (64 * n))) k d))
    (block_in new (get_or (filter (block_differs old new) (range_with_len 0 (64 * n))) k d))
    (filter_passes (block_differs old new) (range_with_len 0 (64 * n)) k d within))))
