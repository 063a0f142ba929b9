-- Blocks put into memory, one after another.
use Rattle.epoch_snapshot.specs.laws.Bytes.{length-xored}
use Rattle.epoch_snapshot.specs.laws.Bytes.{length-with_bytes}
use Rattle.epoch_snapshot.specs.Blocks.{xored}
use Rattle.std.proofs.Common.{◌≡◌, ℕ, suc, ◌+◌, ◌-◌, ◌*◌, ◌<◌, ◌≤◌, ◌==◌, cond, List, [], ◌∷◌, length, take, drop, sym, ap, ◌∙◌, arith}
use Rattle.std.proofs.lemmas.{Bool.{eq-eqb, ne_eqb}, List.{length-take-le, length-drop}}
use Rattle.std.specs.{Int.bit_at, List.{range_with_len, filter}}
use Rattle.guest_rules.specs.{Bytes.with_xored, Blocks.block_place}

-- ---- the blocks that a mask names

-- from one block on
abbrev pub from_block : ℕ → ℕ → List ℕ
from_block mask i = filter (λ j. bit_at mask j == 1) (range_with_len i (64 - i))

from_block-next : (mask i : ℕ) → i < 64 →
    from_block mask i ≡ cond (bit_at mask i == 1) (i ∷ from_block mask (i + 1)) (from_block mask (i + 1))
from_block-next mask i below =
    let e : 64 - i ≡ suc (64 - (i + 1)) = omega arith in
    ap (λ n. filter (λ j. bit_at mask j == 1) (range_with_len i n)) e

pub from_block-set : (mask i : ℕ) → i < 64 → bit_at mask i ≡ 1 → from_block mask i ≡ i ∷ from_block mask (i + 1)
from_block-set mask i below set =
    from_block-next mask i below ∙ ap (λ b. cond b (i ∷ from_block mask (i + 1)) (from_block mask (i + 1))) (eq-eqb (bit_at mask i) 1 set)

pub from_block-clear : (mask i : ℕ) → i < 64 → (bit_at mask i ≡ 1 → ⊥) → from_block mask i ≡ from_block mask (i + 1)
from_block-clear mask i below clear =
    from_block-next mask i below ∙ ap (λ b. cond b (i ∷ from_block mask (i + 1)) (from_block mask (i + 1))) (ne_eqb (bit_at mask i) 1 clear)

pub from_block-end : (mask i : ℕ) → 64 ≤ i → from_block mask i ≡ []
from_block-end mask i past =
    let e : 64 - i ≡ 0 = omega arith in
    ap (λ n. filter (λ j. bit_at mask j == 1) (range_with_len i n)) e

-- ---- one block

-- a block of a page is a block of memory
pub same_place : (ram block : List ℕ) (page i : ℕ) → with_xored ram (block_place page i) block ≡ with_xored ram (64 * (64 * page + i)) block
same_place ram block page i =
    let at : block_place page i ≡ 64 * (64 * page + i) = omega arith in
    ap (λ k. with_xored ram k block) at

pub length-with_xored : (ram block : List ℕ) (page i : ℕ) → length block ≡ 64 → i < 64 → 4096 * page + 4096 ≤ length ram →
    length (with_xored ram (block_place page i) block) ≡ length ram
length-with_xored ram block page i whole below within =
    let at = block_place page i in
    let part : length (take 64 (drop at ram)) ≡ length block =
    length-take-le 64 (drop at ram) (omega (arith, length-drop at ram)) ∙ sym whole in
    let new : length (xored (take 64 (drop at ram)) block) ≡ length (take 64 (drop at ram))
    = length-xored (take 64 (drop at ram)) block part in
    length-with_bytes ram (xored (take 64 (drop at ram)) block) at (omega arith)
