-- A packet is written in two pieces, its header and its frame.
use Rattle.std.proofs.Common.{◌≡◌, ℕ, List, [], ◌∷◌, ◌++◌, length, drop, refl, slice_set, sym, ap, ◌∙◌}
use Rattle.virtqueue.specs.Parts.{put_at}

put_at-append : (bytes places front back : List ℕ) →
    put_at bytes places (front ++ back) ≡ put_at (put_at bytes places front) (drop (length front) places) back
put_at-append bytes [] [] back = refl
put_at-append bytes [] (v ∷ front) back = refl
put_at-append bytes (p ∷ ps) [] back = refl
put_at-append bytes (p ∷ ps) (v ∷ front) back = put_at-append (slice_set bytes p v) ps front back

pub in_two_pieces : (bytes between after places front back piece : List ℕ) → between ≡ put_at bytes places front →
    after ≡ put_at between (drop (length front) places) piece → piece ≡ back → after ≡ put_at bytes places (front ++ back)
in_two_pieces bytes between after places front back piece first second is =
    let rest : List ℕ = drop (length front) places in
    let here : after ≡ put_at (put_at bytes places front) rest back =
    second ∙ (ap (λ (bs : List ℕ). put_at bs rest piece) first ∙ ap (put_at (put_at bytes places front) rest) is) in
    here ∙ sym (put_at-append bytes places front back)
