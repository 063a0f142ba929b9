-- What two options that are the same tell, and the parts of a pair.
use Rattle.std.{proofs.Common.{◌≡◌, Option, Some, None, Result, Ok, Err, IfNone, OnErr, refl, ap}, specs.Option.option_and_then}
use Rattle.std.specs.{Option.option_map, Result.IsErrAnd}

pub some_same : {A : Type 0} {x y : A} → Some x ≡ Some y → x ≡ y
some_same h = cc

pub pair_parts : {A B : Type 0} {p q : A × B} → p ≡ q → (p.0 ≡ q.0) × (p.1 ≡ q.1)
pair_parts e = (ap (λ r. r.0) e, ap (λ r. r.1) e)

-- where a function of what an option holds gives something, the option holds something
pub and_then_some : {A B : Type 0} (f : A → Option B) (o : Option A) (y : B) → option_and_then f o ≡ Some y
    → (x : A) × (o ≡ Some x) × (f x ≡ Some y)
and_then_some f (Some x) y h = (x, refl, h)
and_then_some f None y h = cc

pub map_some : {A B : Type 0} (f : A → B) (o : Option A) (y : B) → option_map f o ≡ Some y → (x : A) × (o ≡ Some x) × (f x ≡ y)
map_some f (Some x) y h = (x, refl, some_same h)
map_some f None y h = cc

-- what holds anyway holds where there is none, or an error
pub if-none : {A X : Type 0} (o : Option A) → X → IfNone o X
if-none None x = x
if-none (Some a) x = tt

pub on-err : {A E X : Type 0} (r : Result A E) → X → OnErr r X
on-err (Ok a) x = tt
on-err (Err e) x = x

-- what holds of each such error holds where there is one
pub failed : {T E : Type 0} (P : E → Type 0) (Q : Result T E → Type 0) (r : Result T E) → IsErrAnd r P → ((e : E) → P e → Q (Err e)) → Q r
failed P Q (Ok x) e h = absurd e
failed P Q (Err x) e h = h x e
