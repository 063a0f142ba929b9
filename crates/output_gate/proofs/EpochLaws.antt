-- Laws of held epochs.
use Rattle.std.proofs.Common.{◌≡◌, ℕ, ◌<◌, ◌≤◌, Bool, true, false, if◌then◌else◌, nat_le, List, [], ◌∷◌, ◌++◌, refl, ◌∙◌, ap, All}
use Rattle.std.proofs.lemmas.Bool.{le-leb, lt-leb}
use Rattle.std.proofs.lemmas.List.Elements.{All-head, All-tail, All-append, All-nil}
use Rattle.arrayvec.specs.ArrayVec.{ArrayVec}
use Rattle.frame_ports.specs.Addresses.{IsFrame}
use Rattle.output_gate.specs.Epochs.{Epoch, IsEpoch, frames_of, frames_to, after_number}

pub after_number-append : (n : ℕ) (es ds : List Epoch) → after_number n (es ++ ds) ≡ after_number n es ++ after_number n ds
after_number-append n [] ds = refl
after_number-append n (e ∷ es) ds = by_number (nat_le e.number n) (after_number-append n es ds)
  where
    by_number : (b : Bool) → after_number n (es ++ ds) ≡ after_number n es ++ after_number n ds →
        (if b then after_number n (es ++ ds) else e ∷ after_number n (es ++ ds)) ≡ (if b then after_number n es else e ∷ after_number n es)
        ++ after_number n ds
    by_number true rest = rest
    by_number false rest = ap (λ (l : List Epoch). e ∷ l) rest

-- where all epochs are up to the number, and where all are after it
pub frames_to-all : (n : ℕ) (es : List Epoch) → All (λ e. e.number ≤ n) es → frames_to n es ≡ frames_of es
frames_to-all n [] all = refl
frames_to-all n (e ∷ es) all =
    ap (λ b. if b then e.frames ++ frames_to n es else frames_to n es) (le-leb e.number n (All-head (λ e. e.number ≤ n) e es all))
    ∙ ap (λ (l : List (ArrayVec ℕ)). e.frames ++ l) (frames_to-all n es (All-tail (λ e. e.number ≤ n) e es all))

pub after_number-all : (n : ℕ) (es : List Epoch) → All (λ e. e.number ≤ n) es → after_number n es ≡ []
after_number-all n [] all = refl
after_number-all n (e ∷ es) all =
    ap (λ b. if b then after_number n es else e ∷ after_number n es) (le-leb e.number n (All-head (λ e. e.number ≤ n) e es all))
    ∙ after_number-all n es (All-tail (λ e. e.number ≤ n) e es all)

pub frames_to-none : (n : ℕ) (es : List Epoch) → All (λ e. n < e.number) es → frames_to n es ≡ []
frames_to-none n [] all = refl
frames_to-none n (e ∷ es) all =
    ap (λ b. if b then e.frames ++ frames_to n es else frames_to n es) (lt-leb e.number n (All-head (λ e. n < e.number) e es all))
    ∙ frames_to-none n es (All-tail (λ e. n < e.number) e es all)

pub after_number-none : (n : ℕ) (es : List Epoch) → All (λ e. n < e.number) es → after_number n es ≡ es
after_number-none n [] all = refl
after_number-none n (e ∷ es) all =
    ap (λ b. if b then after_number n es else e ∷ after_number n es) (lt-leb e.number n (All-head (λ e. n < e.number) e es all))
    ∙ ap (λ (l : List Epoch). e ∷ l) (after_number-none n es (All-tail (λ e. n < e.number) e es all))

-- each held frame is a frame
pub frames_of-frames : (es : List Epoch) → All IsEpoch es → All IsFrame (frames_of es)
frames_of-frames [] all = All-nil IsFrame
frames_of-frames (e ∷ es) all = All-append IsFrame e.frames (frames_of es) (All-head IsEpoch e es all).1
    (frames_of-frames es (All-tail IsEpoch e es all))

pub frames_to-frames : (n : ℕ) (es : List Epoch) → All IsEpoch es → All IsFrame (frames_to n es)
frames_to-frames n [] all = All-nil IsFrame
frames_to-frames n (e ∷ es) all = by_number (nat_le e.number n) (frames_to-frames n es (All-tail IsEpoch e es all))
  where
    by_number : (b : Bool) → All IsFrame (frames_to n es) → All IsFrame (if b then e.frames ++ frames_to n es else frames_to n es)
    by_number true rest = All-append IsFrame e.frames (frames_to n es) (All-head IsEpoch e es all).1 rest
    by_number false rest = rest
