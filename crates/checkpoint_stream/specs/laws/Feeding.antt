-- Bytes are read in two parts as in one; what is closed takes none.
use Rattle.std.proofs.Common.{◌≡◌, ℕ, suc, ◌+◌, Bool, true, false, if◌then◌else◌, List, [], ◌∷◌, ◌++◌, length, refl, arith}
use Rattle.checkpoint_stream.specs.declared.place.Place.{Place, TheVariants.Whole}
use Rattle.checkpoint_stream.specs.Readings.{Reading, is_closed, is_whole, fed_byte, fed, taken}

pub fed-append : (r : Reading) (xs ys : List ℕ) → fed r (xs ++ ys) ≡ fed (fed r xs) ys
unfolding fed
fed-append r [] ys = refl
fed-append r (x ∷ xs) ys = fed-append (fed_byte r x) xs ys

-- what is closed takes nothing
pub fed-closed : (r : Reading) (ys : List ℕ) → is_closed r.place ≡ true → fed r ys ≡ r
unfolding fed fed_byte
fed-closed r [] closed = refl
fed-closed r (y ∷ ys) closed = rw closed (fed-closed r ys closed)

pub taken-closed : (r : Reading) (ys : List ℕ) → is_closed r.place ≡ true → taken r ys ≡ 0
unfolding taken
taken-closed r [] closed = refl
taken-closed r (y ∷ ys) closed = rw closed refl

pub taken-byte : (r : Reading) (b : ℕ) (bs : List ℕ) → is_closed r.place ≡ false → taken r (b ∷ bs) ≡ suc (taken (fed_byte r b) bs)
unfolding taken
taken-byte r b bs going = rw going (omega arith)

taken-step : (closed : Bool) (n m : ℕ) → (if closed then 0 else 1 + n) ≡ suc m → (closed ≡ false) × (n ≡ m)
taken-step true n m e = absurd (omega arith)
taken-step false n m e = (refl, omega arith)

pub taken-append : (r : Reading) (xs ys : List ℕ) → taken r xs ≡ length xs → taken r (xs ++ ys) ≡ length xs + taken (fed r xs) ys
unfolding taken fed
taken-append r [] ys all = omega arith
taken-append r (x ∷ xs) ys all =
    let step : (is_closed r.place ≡ false) × (taken (fed_byte r x) xs ≡ length xs) = taken-step _ _ _ all in
    rw (step.0) (omega (arith, taken-append (fed_byte r x) xs ys step.1))

pub whole-place : (p : Place) → is_whole p ≡ true → p ≡ Whole
whole-place Whole e = refl
whole-place other e = absurd (cc)
