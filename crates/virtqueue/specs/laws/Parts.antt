-- No bytes put at places change nothing; and a good answer of two steps.
use Rattle.std.proofs.Common.{◌≡◌, ℕ, List, [], ◌∷◌, refl}
use Rattle.std.specs.Prelude.{Result, Ok, Err}
use Rattle.virtqueue.specs.declared.broken.Broken.{Broken}
use Rattle.virtqueue.specs.{Chains.{◌>>=◌}, Parts.put_at}

pub put_none : (bytes ps : List ℕ) → put_at bytes ps [] ≡ bytes
put_none bytes [] = refl
put_none bytes (p ∷ ps) = refl

-- a good answer of two steps comes from good answers of both
pub bind_ok : {A B : Type 0} (r : Result A Broken) (f : A → Result B Broken) (y : B) → r >>= f ≡ Ok y → (x : A) × (r ≡ Ok x) × (f x ≡ Ok y)
bind_ok (Ok x) f y h = (x, refl, h)
bind_ok (Err b) f y h = let none : ⊥ = cc in absurd none
