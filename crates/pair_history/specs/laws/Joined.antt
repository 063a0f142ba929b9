-- Epochs one after another, and how many entries a journal has.
use Rattle.std.proofs.Common.{◌≡◌, ◌+◌, List, [], ◌∷◌, ◌++◌, length, sym, ap, ◌∙◌, append_assoc}
use Rattle.std.proofs.lemmas.List.{append-nil, length-append, length-map, Sorted.length_permutation}
use Rattle.pair_history.specs.{Entries.{Entry, DropIn}, Failures.{arrived_numbers, rising, drops_of_taken_in}}
use Rattle.pair_history.specs.laws.Sorted.{IsPermutation-rising}
use Rattle.pair_history.specs.Journal.{Journal, joined, kept_entries, all_entries}

pub joined-push : (ess : List (List Entry)) (es : List Entry) → joined (ess ++ es ∷ []) ≡ joined ess ++ es
joined-push [] es = append-nil es
joined-push (x ∷ ess) es = ap (λ t. x ++ t) (joined-push ess es) ∙ sym (append_assoc x (joined ess) es)

-- how many entries there are in all
pub length-all : (j : Journal) → length (all_entries j) ≡ length j.history + (length (joined j.sealed) + length j.running)
length-all j = length-append j.history (kept_entries j) ∙ ap (λ n. length j.history + n) (length-append (joined j.sealed) j.running)

pub length-kept : (j : Journal) → length (kept_entries j) ≡ length (joined j.sealed) + length j.running
length-kept j = length-append (joined j.sealed) j.running

-- what was taken in is dropped frame by frame
pub length-drops : (j : Journal) → length (drops_of_taken_in (kept_entries j)) ≡ length (arrived_numbers (kept_entries j))
length-drops j =
    let ns = arrived_numbers (kept_entries j) in
    length-map (rising ns) DropIn ∙ length_permutation ns (rising ns) (IsPermutation-rising ns)
