-- What was printed, piece by piece.
use Rattle.std.proofs.Common.{◌≡◌, ◌+◌, ◌<◌, ℕ, List, [], ◌++◌, take, drop, length, get_or, Option, Result, Ok, Err, IsErr, subst, sym}
use Rattle.std.proofs.Common.{ap, ◌∙◌, append_assoc, append-nil, take-append-drop}
use Rattle.std.specs.List.{flat_map}
use Rattle.std.proofs.lemmas.Grind.{flat_map-append}
use Rattle.std.proofs.lemmas.List.{drop_more}
use Rattle.std.specs.Io.KnownBytes.{Appends}
use Rattle.std.proofs.KnownBytes.{Appends-trans}
use Rattle.script_player.specs.Output.{AppendsFront}
use Rattle.script_player.specs.Streams.{Writing, WritesFront, IsPut, IsPrinted}
use Rattle.pair_run.specs.RunPrinted.{IsWritten}

-- more was printed, of which the first was written
front-after : (o m n : Option (List ℕ)) (xs ys : List ℕ) → Appends o m xs → AppendsFront m n ys → AppendsFront o n (xs ++ ys)
front-after o m n xs ys a f =
    (xs ++ f.0, f.1, ap (λ l. xs ++ l) f.2 ∙ sym (append_assoc xs f.0 f.1), Appends-trans o m n xs f.0 a f.3)

-- two pieces, one after another
pub printed-more : {T E : Type 0} (o m n : Writing) (r : Result T E) (xs ys : List ℕ) → Appends o.bytes m.bytes xs → IsPrinted m n r ys
    → IsPrinted o n r (xs ++ ys)
printed-more o m n (Ok done) xs ys a p = Appends-trans o.bytes m.bytes n.bytes xs ys a p
printed-more o m n (Err e) xs ys a p = record { front = front-after o.bytes m.bytes n.bytes xs ys a p.front; badly = p.badly }

pub front-written : (o m n : Writing) (xs ys : List ℕ) → Appends o.bytes m.bytes xs → WritesFront m n ys → WritesFront o n (xs ++ ys)
front-written o m n xs ys a w = record { front = front-after o.bytes m.bytes n.bytes xs ys a w.front; badly = w.badly }

-- what was cut short is a beginning of more
pub cut-short : (o n : Writing) (xs ys : List ℕ) → WritesFront o n xs → WritesFront o n (xs ++ ys)
cut-short o n xs ys w = record {
  front = (
    w.front.0,
    w.front.1 ++ ys,
    ap (λ l. l ++ ys) w.front.2 ∙ append_assoc w.front.0 w.front.1 ys,
    w.front.3,
  );
  badly = w.badly;
}

-- a put is a print
pub put-prints : {T E : Type 0} (o n : Writing) (r : Result T E) (xs : List ℕ) → IsPut o n r xs → IsPrinted o n r xs
put-prints o n (Ok done) xs p = p.0.all
put-prints o n (Err e) xs p = p

-- what was printed is written out
pub written-out : {T E : Type 0} (o m n : Writing) (r : Result T E) (xs : List ℕ) → Appends o.bytes m.bytes xs → IsPut m n r []
    → IsWritten o n r xs
written-out o m n (Ok done) xs a p = record {
  all = subst (λ l. Appends o.bytes n.bytes l) (append-nil xs) (Appends-trans o.bytes m.bytes n.bytes xs [] a p.0.all);
  well = p.0.well;
}
written-out o m n (Err e) xs a p = record {
  front = subst (λ l. AppendsFront o.bytes n.bytes l) (append-nil xs) (front-after o.bytes m.bytes n.bytes xs [] a p.front);
  badly = p.badly;
}

-- a print that failed
pub not-printed : {T E : Type 0} (o n : Writing) (r : Result T E) (xs : List ℕ) → IsErr r → WritesFront o n xs → IsPrinted o n r xs
not-printed o n (Ok done) xs e w = absurd (cc)
not-printed o n (Err error) xs e w = w

pub not-written : {T E : Type 0} (o n : Writing) (r : Result T E) (xs : List ℕ) → IsErr r → WritesFront o n xs → IsWritten o n r xs
not-written o n (Ok done) xs e w = absurd (cc)
not-written o n (Err error) xs e w = w

-- the lines of a list's items: of those before one, its own, and those after it
pub around-item : {X : Type 0} (f : X → List ℕ) (xs : List X) (i : ℕ) (x : X) → i < length xs → x ≡ get_or xs i x
    → flat_map f xs ≡ (flat_map f (take i xs) ++ f x) ++ flat_map f (drop (i + 1) xs)
around-item f xs i x inside is =
    ap (flat_map f) (sym (take-append-drop i xs))
    ∙ flat_map-append f (take i xs) (drop i xs)
    ∙ ap (λ ys. flat_map f (take i xs) ++ flat_map f ys) (drop_more xs i x inside)
    ∙ ap (λ y. flat_map f (take i xs) ++ (f y ++ flat_map f (drop (i + 1) xs))) (sym is)
    ∙ sym (append_assoc (flat_map f (take i xs)) (f x) (flat_map f (drop (i + 1) xs)))

-- items were printed up to one of which a write failed
pub cut-at-item : {X T E : Type 0} (o m n : Writing) (r : Result T E) (f : X → List ℕ) (xs : List X) (i : ℕ) (x : X) → i < length xs
    → x ≡ get_or xs i x → Appends o.bytes m.bytes (flat_map f (take i xs)) → WritesFront m n (f x) → IsErr r
    → IsPrinted o n r (flat_map f xs)
cut-at-item o m n r f xs i x inside is before w failed =
    let front = front-written o m n (flat_map f (take i xs)) (f x) before w in
    not-printed o n r (flat_map f xs) failed
    (subst (λ ys. WritesFront o n ys) (sym (around-item f xs i x inside is))
    (cut-short o n (flat_map f (take i xs) ++ f x) (flat_map f (drop (i + 1) xs)) front))
