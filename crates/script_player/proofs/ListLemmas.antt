-- Lists of which all elements have something.
use Rattle.std.{proofs.Common.{List, [], ◌∷◌, ◌++◌}, specs.List.AllByRecursion}

-- one more element
pub all-push : {A : Type 0} (P : A → Type 0) (xs : List A) (x : A) → AllByRecursion P xs → P x → AllByRecursion P (xs ++ x ∷ [])
all-push P [] x all here = (here, tt)
all-push P (y ∷ xs) x all here = (all.0, all-push P xs x all.1 here)
