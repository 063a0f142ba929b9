-- Blocks: what XOR gives back, and what differs.
use Rattle.std.proofs.Common.{◌≡◌, ℕ, zero, suc, ◌+◌, ◌*◌, ◌≤◌, Bool, true, false, ◌||◌, ◌==◌, not, List, [], ◌∷◌, ◌++◌, length, take, drop}
use Rattle.std.proofs.{Common.{map, cond, refl, sym, ap, ◌∙◌, arith}, lemmas.{Bool.{eqb-true, true≢false}, List.{take_at, drop_at}}}
use Rattle.std.proofs.lemmas.List.{drop-drop, take-append-drop, length-take-le, length-drop, append_assoc, append-nil, take_all}
use Rattle.std.proofs.{lemmas.List.nil_from_length, Math.Seq.take-add}
use Rattle.std.specs.{Int.Bits.{bit_xor, xor_assoc, xor_self, xor_zero_l}, List.{range_with_len, filter}}
use Rattle.guest_rules.specs.Bytes.{with_bytes, with_xored}
use Rattle.epoch_snapshot.specs.{Blocks.{xored, differ, block_in, block_differs}, Cuts.block_change, Images.with_blocks}

pub xor_twice : (a b : ℕ) → bit_xor a (bit_xor a b) ≡ b
xor_twice a b = sym (xor_assoc a a b) ∙ ap (λ n. bit_xor n b) (xor_self a) ∙ xor_zero_l b

-- XOR with what was XORed gives the other back
pub xored_twice : (xs ys : List ℕ) → length xs ≡ length ys → xored xs (xored xs ys) ≡ ys
xored_twice [] [] e = refl
xored_twice [] (y ∷ ys) e = absurd (omega arith)
xored_twice (x ∷ xs) [] e = absurd (omega arith)
xored_twice (x ∷ xs) (y ∷ ys) e = λ i. xor_twice x y i ∷ xored_twice xs ys (omega arith) i

pub or_parts : (a b : Bool) → (a || b) ≡ false → (a ≡ false) × (b ≡ false)
or_parts true b e = absurd (true≢false e)
or_parts false b e = (refl, e)

same_byte : (x y : ℕ) (b : Bool) → (x == y) ≡ b → not b ≡ false → x ≡ y
same_byte x y true e f = eqb-true x y e
same_byte x y false e f = absurd (true≢false f)

-- bytes that differ nowhere are the same
pub same-bytes : (xs ys : List ℕ) → length xs ≡ length ys → differ xs ys ≡ false → xs ≡ ys
same-bytes [] [] e f = refl
same-bytes [] (y ∷ ys) e f = absurd (omega arith)
same-bytes (x ∷ xs) [] e f = absurd (omega arith)
same-bytes (x ∷ xs) (y ∷ ys) e f =
    let both = or_parts (not (x == y)) (differ xs ys) f in
    λ i. same_byte x y (x == y) refl both.0 i ∷ same-bytes xs ys (omega arith) both.1 i

drop_past : (n : ℕ) (xs : List ℕ) → length xs ≤ n → drop n xs ≡ []
drop_past n xs past = nil_from_length (drop n xs) (omega (arith, length-drop n xs))

pub length-block : (xs : List ℕ) (n : ℕ) → 64 * n + 64 ≤ length xs → length (block_in xs n) ≡ 64
length-block xs n within = length-take-le 64 (drop (64 * n) xs) (omega (arith, length-drop (64 * n) xs))

-- ---- one memory turned into another, block by block

-- the new memory up to a block, and the old one from it on
abbrev pub mixed : List ℕ → List ℕ → ℕ → List ℕ
mixed old new n = take (64 * n) new ++ drop (64 * n) old

module _ (old new : List ℕ) (long : length old ≡ length new) where
  fronts : (n : ℕ) → 64 * n ≤ length new → length (take (64 * n) new) ≡ 64 * n
  fronts n within = length-take-le (64 * n) new within

  rest : (n k : ℕ) → 64 * n ≤ length new → drop (64 * n + k) (mixed old new n) ≡ drop (64 * n + k) old
  rest n k within =
      sym (drop-drop k (64 * n) (mixed old new n))
      ∙ ap (drop k) (drop_at (take (64 * n) new) (drop (64 * n) old) (64 * n) (fronts n within))
      ∙ drop-drop k (64 * n) old

  here : (n : ℕ) → 64 * n ≤ length new → block_in (mixed old new n) n ≡ block_in old n
  here n within = ap (take 64) (drop_at (take (64 * n) new) (drop (64 * n) old) (64 * n) (fronts n within))

  next : (n : ℕ) → 64 * n + 64 ≤ length new → take (64 * n) new ++ (block_in new n ++ drop (64 * n + 64) old) ≡ mixed old new (n + 1)
  next n within =
      let e : 64 * (n + 1) ≡ 64 * n + 64 = omega arith in
      sym (append_assoc (take (64 * n) new) (block_in new n) (drop (64 * n + 64) old))
      ∙ ap (λ l. l ++ drop (64 * n + 64) old) (sym (take-add (64 * n) 64 new))
      ∙ sym (ap (λ k. take k new ++ drop k old) e)

  -- a block that changes
  changed : (n : ℕ) → 64 * n + 64 ≤ length new → with_xored (mixed old new n) (64 * n) (block_change old new n) ≡ mixed old new (n + 1)
  changed n within =
      let both : length (block_in old n) ≡ length (block_in new n) = length-block old n (omega arith) ∙ sym (length-block new n within) in
      let block : xored (block_in (mixed old new n) n) (block_change old new n) ≡ block_in new n
      = ap (λ b. xored b (block_change old new n)) (here n (omega arith)) ∙ xored_twice (block_in old n) (block_in new n) both in
      ap (with_bytes (mixed old new n) (64 * n)) block
      ∙ ap (λ k. take (64 * n) (mixed old new n) ++ (block_in new n ++ drop (64 * n + k) (mixed old new n))) (length-block new n within)
      ∙ (λ i. take_at (take (64 * n) new) (drop (64 * n) old) (64 * n) (fronts n (omega arith))
      i ++ (block_in new n ++ rest n 64 (omega arith) i))
      ∙ next n within

  -- a block that doesn't
  kept : (n : ℕ) → 64 * n + 64 ≤ length new → block_differs old new n ≡ false → mixed old new n ≡ mixed old new (n + 1)
  kept n within same =
      let both : length (block_in old n) ≡ length (block_in new n) = length-block old n (omega arith) ∙ sym (length-block new n within) in
      let split : drop (64 * n) old ≡ block_in old n ++ drop (64 * n + 64) old
      = sym (take-append-drop 64 (drop (64 * n) old)) ∙ ap (λ l. block_in old n ++ l) (drop-drop 64 (64 * n) old) in
      ap (λ l. take (64 * n) new ++ l) (split ∙ ap (λ b. b ++ drop (64 * n + 64) old)
      (same-bytes (block_in old n) (block_in new n) both same))
      ∙ next n within

  step : (b : Bool) (n : ℕ) (ns : List ℕ) (out : List ℕ) → 64 * n + 64 ≤ length new → block_differs old new n ≡ b →
      with_blocks (mixed old new (n + 1)) ns (map (block_change old new) ns) ≡ out →
      with_blocks (mixed old new n) (cond b (n ∷ ns) ns) (map (block_change old new) (cond b (n ∷ ns) ns)) ≡ out
  unfolding with_blocks
  step true n ns out within e then = ap (λ m. with_blocks m ns (map (block_change old new) ns)) (changed n within) ∙ then
  step false n ns out within e then = ap (λ m. with_blocks m ns (map (block_change old new) ns)) (kept n within e) ∙ then

  pub with_blocks-changed : (n k : ℕ) → 64 * (n + k) ≤ length new →
      with_blocks (mixed old new n) (filter (block_differs old new) (range_with_len n k))
      (map (block_change old new) (filter (block_differs old new) (range_with_len n k)))
      ≡ mixed old new (n + k)
  unfolding with_blocks
  with_blocks-changed n zero within =
      let e : n ≡ n + zero = omega arith in
      ap (mixed old new) e
  with_blocks-changed n (suc k) within =
      let e : (n + 1) + k ≡ n + suc k = omega arith in
      step (block_differs old new n) n (filter (block_differs old new) (range_with_len (n + 1) k)) (mixed old new (n + suc k)) (omega arith)
      refl
      (with_blocks-changed (n + 1) k (omega arith) ∙ ap (mixed old new) e)

  -- all blocks that differ, XORed into the old memory, make the new one
  pub with_blocks-all : (k : ℕ) → length new ≡ 64 * k →
      with_blocks old (filter (block_differs old new) (range_with_len 0 k))
      (map (block_change old new) (filter (block_differs old new) (range_with_len 0 k))) ≡ new
  with_blocks-all k whole =
      let e : 64 * (0 + k) ≡ length new = omega arith in
      let none : drop (64 * (0 + k)) old ≡ [] = drop_past (64 * (0 + k)) old (omega arith) in
      with_blocks-changed 0 k (omega arith)
      ∙ (λ i. take_all (64 * (0 + k)) new (omega arith) i ++ none i)
      ∙ append-nil new
