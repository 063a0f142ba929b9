-- Rising numbers.
use Rattle.std.proofs.Common.{ℕ, zero, suc, ◌+◌, ◌<◌, ◌≤◌, List, [], ◌∷◌, length, map, get_or, arith}
use Rattle.guest_rules.specs.Dirty.{Rises}

rises-le : (from end : ℕ) (is : List ℕ) → Rises from end is → from ≤ end
rises-le from end [] h = h
rises-le from end (i ∷ is) h = let l : i + 1 ≤ end = rises-le (i + 1) end is h.1 in omega (arith, h.0)

-- each of rising numbers is below their end
pub rising-below : {X : Type 0} (number : X → ℕ) (from end : ℕ) (xs : List X) (k : ℕ) (d : X) → Rises from end (map number xs) →
    k < length xs → number (get_or xs k d) < end
rising-below number from end [] k d h within = absurd (omega arith)
rising-below number from end (x ∷ xs) zero d h within = let l : number x + 1 ≤ end = rises-le (number x + 1) end (map number xs) h.1 in
    omega arith
rising-below number from end (x ∷ xs) (suc k) d h within = rising-below number (number x + 1) end xs k d h.1 (omega arith)
