-- Bytes of which some are replaced, and bytes that are XORed, are as many as before.
use Rattle.std.proofs.Common.{◌≡◌, ℕ, ◌+◌, ◌≤◌, List, ◌++◌, length, take, drop, arith, length-append}
use Rattle.std.proofs.lemmas.List.{length-take-le, length-drop}
use Rattle.std.proofs.Common.{suc, [], ◌∷◌, refl, sym, ap}
use Rattle.epoch_snapshot.specs.Blocks.{xored}
use Rattle.guest_rules.specs.Bytes.{with_bytes}

pub length-with_bytes : (xs new : List ℕ) (at : ℕ) → at + length new ≤ length xs → length (with_bytes xs at new) ≡ length xs
length-with_bytes xs new at fits =
    let front : length (take at xs) ≡ at = length-take-le at xs (omega arith) in
    omega (
      arith,
      length-append (take at xs) (new ++ drop (at + length new) xs),
      length-append new (drop (at + length new) xs),
      length-drop (at + length new) xs,
    )

pub length-xored : (xs ys : List ℕ) → length xs ≡ length ys → length (xored xs ys) ≡ length xs
length-xored [] ys e = refl
length-xored (x ∷ xs) [] e = sym e
length-xored (x ∷ xs) (y ∷ ys) e = ap suc (length-xored xs ys (omega arith))
