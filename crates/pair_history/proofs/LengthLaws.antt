-- How many landings there are of frames.
use Rattle.std.proofs.Common.{◌≡◌, ℕ, ◌+◌, ◌<◌, List, ◌∷◌, length, drop, get_or, sym, ap, ◌∙◌}
use Rattle.std.proofs.lemmas.List.{drop_more, length-append, length-map}
use Rattle.frame_ports.specs.Addresses.{targets_of, paired_with, clients_of}
use Rattle.pair_history.specs.Entries.{Frame}

-- of the frames from this place on, those of the one there and those of the others
pub targets-more : (n : ℕ) (fs : List Frame) (i : ℕ) (f : Frame) → i < length fs → f ≡ get_or fs i f
    → length (targets_of n (drop i fs)) ≡ length (clients_of n f.items) + length (targets_of n (drop (i + 1) fs))
targets-more n fs i f within is =
    let rest = targets_of n (drop (i + 1) fs) in
    ap (λ (gs : List Frame). length (targets_of n gs)) (drop_more fs i f within)
    ∙ ap (λ (g : Frame). length (targets_of n (g ∷ drop (i + 1) fs))) (sym is)
    ∙ length-append (paired_with (clients_of n f.items) f) rest
    ∙ ap (λ k. k + length rest) (length-map {B = ℕ × Frame} (clients_of n f.items) (λ c. (c, f)))
