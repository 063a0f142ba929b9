-- Places in lists.
use Rattle.std.proofs.Common.{◌≡◌, ℕ, zero, suc, ◌+◌, List, [], ◌∷◌, ◌++◌, length, drop, refl, ap, ◌∙◌, subst, arith, Some}
use Rattle.std.specs.Prelude.{slice_get}
use Rattle.pair_core.specs.Nodes.{later_texts}

-- what has a place keeps it
pub place-stays : {X : Type 0} (xs ys : List X) (k : ℕ) (x : X) → slice_get xs k ≡ Some x → slice_get (xs ++ ys) k ≡ Some x
place-stays [] ys k x e = absurd (cc)
place-stays (y ∷ xs) ys zero x e = e
place-stays (y ∷ xs) ys (suc k) x e = place-stays xs ys k x e

-- the places of what comes behind
pub place-behind : {X : Type 0} (xs ys : List X) (k : ℕ) → slice_get (xs ++ ys) (length xs + k) ≡ slice_get ys k
place-behind [] ys k = let e : 0 + k ≡ k = omega arith in ap (slice_get ys) e
place-behind (x ∷ xs) ys k =
    let e : suc (length xs) + k ≡ suc (length xs + k) = omega arith in
    ap (slice_get (x ∷ (xs ++ ys))) e ∙ place-behind xs ys k

pub place-last : {X : Type 0} (xs : List X) (x : X) → slice_get (xs ++ x ∷ []) (length xs) ≡ Some x
place-last xs x =
    let e : length xs ≡ length xs + 0 = omega arith in
    ap (slice_get (xs ++ x ∷ [])) e ∙ place-behind xs (x ∷ []) 0

-- behind the first so many
pub place-dropped : {X : Type 0} (n : ℕ) (xs : List X) (k : ℕ) → slice_get (drop n xs) k ≡ slice_get xs (n + k)
place-dropped zero xs k = let e : k ≡ 0 + k = omega arith in ap (slice_get xs) e
place-dropped (suc n) [] k = refl
place-dropped (suc n) (x ∷ xs) k =
    let e : suc (n + k) ≡ suc n + k = omega arith in
    place-dropped n xs k ∙ ap (slice_get (x ∷ xs)) e

-- of what stands in either of two lists: it stood there, or it is the last one
pub place-split : {X : Type 0} (xs : List X) (y : X) (k : ℕ) (x : X) (P : X → Type 0)
    → ((j : ℕ) → slice_get xs j ≡ Some x → P x) → P y → slice_get (xs ++ y ∷ []) k ≡ Some x → P x
place-split [] y zero x P old new e = let same : y ≡ x = cc in subst P same new
place-split [] y (suc k) x P old new e = absurd (cc)
place-split (z ∷ xs) y zero x P old new e = old 0 e
place-split (z ∷ xs) y (suc k) x P old new e = place-split xs y k x P (λ j. old (suc j)) new e

-- without the first
pub later-drop : (n : ℕ) (xs : List (List ℕ)) → later_texts (drop n xs) ≡ drop (suc n) xs
later-drop zero [] = refl
later-drop zero (x ∷ xs) = refl
later-drop (suc n) [] = refl
later-drop (suc n) (x ∷ xs) = later-drop n xs

pub later-place : (xs : List (List ℕ)) (k : ℕ) → slice_get (later_texts xs) k ≡ slice_get xs (suc k)
later-place [] k = refl
later-place (x ∷ xs) k = refl
