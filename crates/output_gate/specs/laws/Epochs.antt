-- The frames of held epochs, in two parts.
use Rattle.std.proofs.Common.{◌≡◌, ℕ, Bool, true, false, if◌then◌else◌, nat_le, List, [], ◌∷◌, ◌++◌, refl, sym, ◌∙◌, ap, append_assoc}
use Rattle.arrayvec.specs.ArrayVec.{ArrayVec}
use Rattle.output_gate.specs.Epochs.{Epoch, frames_of, frames_to}

-- epochs in two parts
pub frames_of-append : (es ds : List Epoch) → frames_of (es ++ ds) ≡ frames_of es ++ frames_of ds
frames_of-append [] ds = refl
frames_of-append (e ∷ es) ds = ap (λ (l : List (ArrayVec ℕ)). e.frames ++ l) (frames_of-append es ds)
    ∙ sym (append_assoc e.frames (frames_of es) (frames_of ds))

pub frames_to-append : (n : ℕ) (es ds : List Epoch) → frames_to n (es ++ ds) ≡ frames_to n es ++ frames_to n ds
frames_to-append n [] ds = refl
frames_to-append n (e ∷ es) ds = by_number (nat_le e.number n) (frames_to-append n es ds)
  where
    by_number : (b : Bool) → frames_to n (es ++ ds) ≡ frames_to n es ++ frames_to n ds →
        (if b then e.frames ++ frames_to n (es ++ ds) else frames_to n (es ++ ds))
        ≡ (if b then e.frames ++ frames_to n es else frames_to n es) ++ frames_to n ds
    by_number true rest = ap (λ (l : List (ArrayVec ℕ)). e.frames ++ l) rest ∙ sym (append_assoc e.frames (frames_to n es) (frames_to n ds))
    by_number false rest = rest
