-- A rotation one step on, and what is left after an item was taken out of the middle.
use Rattle.std.proofs.Common.{
  ◌≡◌,
  ℕ,
  ◌+◌,
  ◌-◌,
  ◌<◌,
  List,
  [],
  ◌∷◌,
  ◌++◌,
  length,
  take,
  drop,
  get_or,
  Some,
  None,
  refl,
  sym,
  ◌∙◌,
  ap,
  arith,
  append_assoc,
  slice_get,
  remove,
  add-one,
}
use Rattle.std.proofs.Math.ListN.{length-drop}
use Rattle.std.proofs.lemmas.List.{drop_more, take_more, drop_at, take_at}
use Rattle.std.proofs.lemmas.Option.{same_Some, none-some, slice_get-get_or}

module _ {X : Type 0} where
  -- the first item of the rotated list
  pub slice_get-rotated : (xs : List X) (k : ℕ) (d : X) → k < length xs → slice_get (drop k xs ++ take k xs) 0 ≡ Some (get_or xs k d)
  slice_get-rotated xs k d inside = ap (λ (l : List X). slice_get (l ++ take k xs) 0) (drop_more xs k d inside)

  pub drop-rotated : (xs : List X) (k : ℕ) (d : X) → k < length xs → drop 1 (drop k xs ++ take k xs) ≡ drop (k + 1) xs ++ take k xs
  drop-rotated xs k d inside = ap (λ (l : List X). drop 1 (l ++ take k xs)) (drop_more xs k d inside)

  -- the first item of the rotated list goes behind the others
  pub rotate_more : (xs : List X) (k : ℕ) (x : X) → k < length xs → Some x ≡ slice_get (drop k xs ++ take k xs) 0 →
      drop 1 (drop k xs ++ take k xs) ++ x ∷ [] ≡ drop (k + 1) xs ++ take (k + 1) xs
  rotate_more xs k x inside is =
      let same : x ≡ get_or xs k x = same_Some x (get_or xs k x) (is ∙ slice_get-rotated xs k x inside) in
      ap (λ (l : List X). l ++ x ∷ []) (drop-rotated xs k x inside)
      ∙ append_assoc (drop (k + 1) xs) (take k xs) (x ∷ [])
      ∙ ap (λ (l : List X). drop (k + 1) xs ++ l) (ap (λ (y : X). take k xs ++ y ∷ []) same ∙ sym (take_more xs k x inside))

  -- and where one is left, there is a first
  pub rotated_some : (xs : List X) (k : ℕ) → k < length xs → None ≡ slice_get (drop k xs ++ take k xs) 0 → ⊥
  rotated_some [] k inside is = absurd (omega arith)
  rotated_some (x ∷ xs) k inside is = none-some (get_or (x ∷ xs) k x) (is ∙ slice_get-rotated (x ∷ xs) k x inside)

  -- a rotation to the place, a pop and a rotation of what was behind it
  pub removed : (xs : List X) (k : ℕ) → k < length xs →
      drop (length xs - k - 1) (drop 1 (drop k xs ++ take k xs)) ++ take (length xs - k - 1) (drop 1 (drop k xs ++ take k xs)) ≡ remove xs k
  removed [] k inside = absurd (omega arith)
  removed (x ∷ xs) k inside =
      let ys : List X = x ∷ xs in
      let n : ℕ = length ys - k - 1 in
      let long : length (drop (k + 1) ys) ≡ n = length-drop (k + 1) ys ∙ (omega arith) in
      ap (λ (l : List X). drop n l ++ take n l) (drop-rotated ys k x inside)
      ∙ ap (λ (l : List X). l ++ take n (drop (k + 1) ys ++ take k ys)) (drop_at (drop (k + 1) ys) (take k ys) n long)
      ∙ ap (λ (l : List X). take k ys ++ l) (take_at (drop (k + 1) ys) (take k ys) n long ∙ ap (λ (m : ℕ). drop m ys) (add-one k))

  pub removed_item : (xs : List X) (k : ℕ) → k < length xs → slice_get (drop k xs ++ take k xs) 0 ≡ slice_get xs k
  removed_item [] k inside = absurd (omega arith)
  removed_item (x ∷ xs) k inside = slice_get-rotated (x ∷ xs) k x inside ∙ sym (slice_get-get_or (x ∷ xs) k x inside)

  -- what was put last is there
  pub last_there : (xs : List X) (x : X) → slice_get (xs ++ x ∷ []) (length xs) ≡ Some x
  last_there [] x = refl
  last_there (y ∷ xs) x = last_there xs x
