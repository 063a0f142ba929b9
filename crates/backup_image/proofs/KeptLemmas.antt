-- The frames of the last four commits.
use Rattle.std.proofs.Common.{◌≡◌, ℕ, ◌+◌, ◌-◌, ◌<◌, ◌≤◌, List, [], ◌∷◌, ◌++◌, length, map, drop, refl, sym, ap, ◌∙◌, arith}
use Rattle.std.proofs.lemmas.List.{length-append, length-map, length-drop, map-append, drop-map, drop-append-le}
use Rattle.std.proofs.lemmas.List.{Elements.{All-push, All-drop}, Sums.{sum_by-cons, sum_by_push, sum_by-take-drop}}
use Rattle.std.specs.{List.{All, sum_by}}
use Rattle.arrayvec.specs.ArrayVec.{ArrayVec}
use Rattle.net_device.specs.Frames.{IsFrame}
use Rattle.backup_image.specs.{Limits.{max_kept, number_limit}, Kept.{Kept, IsKept, count_kept, last_kept, kept_after}}

abbrev Frames : Type 0
Frames = List (ArrayVec ℕ)

-- the oldest goes where there are four, and then the new one comes last
pub kept-after : {X : Type 0} (f : X → Frames) (xs : List X) (x : X) →
    map f (drop (length xs + 1 - max_kept) xs ++ x ∷ []) ≡ kept_after (map f xs) (f x)
kept-after f xs x =
    let n : ℕ = length xs + 1 - max_kept in
    let count : length (map f xs ++ f x ∷ []) - max_kept ≡ n
    = omega (arith, length-append (map f xs) (f x ∷ []), length-map xs f) in
    let few : n ≤ length (map f xs) = omega (arith, length-map xs f) in
    map-append f (drop n xs) (x ∷ [])
    ∙ ap (λ (l : List Frames). l ++ f x ∷ []) (sym (drop-map f n xs))
    ∙ sym (drop-append-le n (map f xs) (f x ∷ []) few)
    ∙ ap (λ (k : ℕ). drop k (map f xs ++ f x ∷ [])) (sym count)

count-last : (lists : List Frames) → count_kept (last_kept lists) ≤ count_kept lists
count-last lists = omega (arith, sum_by-take-drop (λ (l : Frames). length l) lists (length lists - max_kept))

count-push : (lists : List Frames) (frames : Frames) → count_kept (lists ++ frames ∷ []) ≡ count_kept lists + length frames
count-push lists frames = sum_by_push (λ (l : Frames). length l) lists frames

-- what is true of kept frames is true of those after one more commit
pub kept-again : (k : Kept) (frames : Frames) → IsKept k → length frames ≤ 256 → All IsFrame frames →
    k.sent + length frames < number_limit → IsKept (record { lists = kept_after k.lists frames; sent = k.sent + length frames })
kept-again k frames is short good fits =
    let all : List Frames = k.lists ++ frames ∷ [] in
    let n : ℕ = length all - max_kept in
    record {
      few = omega (arith, length-drop n all);
      short = All-drop (λ (l : Frames). length l ≤ 256) n all (All-push (λ (l : Frames). length l ≤ 256) k.lists frames is.short short);
      frames = All-drop (λ (l : Frames). All IsFrame l) n all (All-push (λ (l : Frames). All IsFrame l) k.lists frames is.frames good);
      counted = omega (arith, count-last all, count-push k.lists frames, is.counted);
      numbers = fits;
    }

-- a sum over lists, by what each is made of
pub count_map : {X : Type 0} (f : X → Frames) (xs : List X) → count_kept (map f xs) ≡ sum_by (λ x. length (f x)) xs
count_map f [] = refl
count_map f (x ∷ xs) =
    sum_by-cons (λ (l : Frames). length l) (f x) (map f xs)
    ∙ ap (λ (n : ℕ). length (f x) + n) (count_map f xs)
    ∙ sym (sum_by-cons (λ y. length (f y)) x xs)
