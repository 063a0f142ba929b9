-- Frames that lie among bytes stay what they are where bytes come behind.
use Rattle.std.proofs.Common.{◌≡◌, ℕ, ◌+◌, ◌-◌, ◌≤◌, List, [], ◌∷◌, ◌++◌, length, take, drop, map}
use Rattle.std.proofs.Common.{ap, ◌∙◌, refl, arith}
use Rattle.std.specs.List.{All}
use Rattle.std.proofs.lemmas.List.{drop-append-le, take-append-le, drop_all, take_all, length-append, length-drop, map-append}
use Rattle.std.proofs.lemmas.List.Elements.{All-append, All-cons, All-head, All-nil, All-tail}
use Rattle.arrayvec.specs.ArrayVec.{ArrayVec}
use Rattle.frame_list.specs.declared.spans.Span.{Span}
use Rattle.frame_list.specs.internal.Spans.{frame_at, IsInside}

abbrev pub frame_of : List ℕ → ArrayVec ℕ
frame_of bytes = record { items = bytes }

same : (bs xs : List ℕ) (s : Span) → IsInside (length bs) s → frame_at (bs ++ xs) s ≡ frame_at bs s
same bs xs s h =
    let long = length-drop s.start bs in
    let a = h.0 in
    let b = h.1 in
    ap frame_of
    (ap (take (s.end - s.start)) (drop-append-le s.start bs xs (omega arith))
    ∙ take-append-le (s.end - s.start) (drop s.start bs) xs (omega arith))

pub kept : (bs xs : List ℕ) (ss : List Span) → All (IsInside (length bs)) ss → map (frame_at (bs ++ xs)) ss ≡ map (frame_at bs) ss
kept bs xs [] h = refl
kept bs xs (s ∷ ss) h =
    λ i. same bs xs s (All-head (IsInside (length bs)) s ss h) i ∷ kept bs xs ss (All-tail (IsInside (length bs)) s ss h) i

last : (bs xs : List ℕ) → frame_at (bs ++ xs) (record { start = length bs; end = length bs + length xs }) ≡ frame_of xs
last bs xs =
    ap frame_of
    (ap (take (length bs + length xs - length bs))
    (drop-append-le (length bs) bs xs (omega arith) ∙ ap (λ (l : List ℕ). l ++ xs) (drop_all (length bs) bs (omega arith)))
    ∙ take_all (length bs + length xs - length bs) xs (omega arith))

-- one more lies behind those that lie there
pub put : (bs xs : List ℕ) (ss : List Span) → All (IsInside (length bs)) ss
    → map (frame_at (bs ++ xs)) (ss ++ record { start = length bs; end = length bs + length xs } ∷ []) ≡ map (frame_at bs) ss ++ frame_of xs ∷ []
put bs xs ss h =
    map-append (frame_at (bs ++ xs)) ss (record { start = length bs; end = length bs + length xs } ∷ [])
    ∙ (λ i. kept bs xs ss h i ++ last bs xs i ∷ [])

-- and it lies among all of them
pub inside : (bs xs : List ℕ) (ss : List Span) → All (IsInside (length bs)) ss → length xs ≤ 1514
    → All (IsInside (length (bs ++ xs))) (ss ++ record { start = length bs; end = length bs + length xs } ∷ [])
inside bs xs ss h short =
    let long = length-append bs xs in
    All-append (IsInside (length (bs ++ xs))) ss (record { start = length bs; end = length bs + length xs } ∷ [])
    (λ k d lt. let p = h k d lt in let a = p.0 in let b = p.1 in let e = p.2 in (omega arith, omega arith, omega arith))
    (All-cons (IsInside (length (bs ++ xs))) (record { start = length bs; end = length bs + length xs }) []
    (omega arith, omega arith, omega arith) (All-nil (IsInside (length (bs ++ xs)))))
