-- Laws of the frames that arrived in kept epochs: how many they are, and what the history gains where they are dropped.
use Rattle.std.proofs.Common.{rules, arith, ◌≡◌, ℕ, zero, suc, ◌+◌, ◌<◌, List, [], ◌∷◌, ◌++◌, length, refl, sym, ap, ◌∙◌}
use Rattle.std.proofs.lemmas.List.{append-nil, length-append, length-map, Sorted.length_permutation}
use Rattle.std.specs.{Prelude.map, List.Sorted.{IsPermutation, IsNonDecreasing}}
use Rattle.frame_ports.specs.Limits.{number_limit}
use Rattle.pair_history.specs.Entries.{Entry, DropIn}
use Rattle.pair_history.specs.Failures.{arrived_numbers, drops_of_taken_in}
use Rattle.pair_history.specs.laws.Sorted.{rising-sorted}
use Rattle.pair_history.specs.laws.Waits.{arrived_numbers-append}
use Rattle.pair_history.specs.declared.{epochs.Arrival.Arrival, epochs.RunningEpoch.RunningEpoch, journal.Journal.TheInside.Inside}
use Rattle.pair_history.specs.{Journal.{Journal, joined, kept_entries}, internal.JournalFields.{epoch_of, stored, AreFields}}
use Rattle.pair_history.specs.internal.Arrivals.{steps_of, arrivals_of, epoch_entries, numbers_of, numbers_in}
use Rattle.pair_history.specs.laws.Waits.{arrived-few}

-- The numbers of the frames that arrived

arrived-steps : (k : ℕ) → arrived_numbers (steps_of k) ≡ []
arrived-steps zero = refl
arrived-steps (suc k) = arrived-steps k

arrived-arrivals : (arrivals : List Arrival) → arrived_numbers (arrivals_of arrivals) ≡ numbers_of arrivals
arrived-arrivals [] = refl
arrived-arrivals (a ∷ arrivals) = search (arith, rules, arrived_numbers-append, arrived-steps, arrived-arrivals arrivals)

arrived-epoch : (arrivals : List Arrival) (k : ℕ) → arrived_numbers (epoch_entries arrivals k) ≡ numbers_of arrivals
arrived-epoch arrivals k = search (arith, rules, append-nil, arrived_numbers-append, arrived-arrivals, arrived-steps)

pub arrived-count : (arrivals : List Arrival) (k : ℕ) → length (arrived_numbers (epoch_entries arrivals k)) ≡ length arrivals
arrived-count arrivals k = ap length (arrived-epoch arrivals k) ∙ length-map arrivals (λ (a : Arrival). a.number)

arrived-joined : (es : List RunningEpoch) → arrived_numbers (joined (map epoch_of es)) ≡ numbers_in es
arrived-joined [] = refl
arrived-joined (e ∷ es) = search (arith, rules, arrived_numbers-append, arrived-epoch, arrived-joined es)

pub arrived-kept : (a : Inside)
    → arrived_numbers (kept_entries (stored a).journal) ≡ numbers_in a.sealed.items ++ numbers_of a.running.arrivals.items
arrived-kept a = search (arith, rules, arrived_numbers-append, arrived-epoch, arrived-joined)

-- What is added

-- however the numbers are sorted
pub drops-are : (j : Journal) (ns : List ℕ) → IsPermutation (arrived_numbers (kept_entries j)) ns → IsNonDecreasing ns
    → drops_of_taken_in (kept_entries j) ≡ map DropIn ns
drops-are j ns same sorted = ap (map DropIn) (sym (rising-sorted (arrived_numbers (kept_entries j)) ns same sorted))

-- The journal

module _ (a : Inside) where
  -- the frames that the kept epochs took in, in number
  pub taken_in-count : length (numbers_in a.sealed.items) + length a.running.arrivals.items
      ≡ length (arrived_numbers (kept_entries (stored a).journal))
  taken_in-count = search (arith, rules, arrived-kept, length-append, length-map)

  pub taken_in-few : AreFields a → length a.history.entries + length (arrived_numbers (kept_entries (stored a).journal)) < number_limit
  taken_in-few h = search (arith, rules, arrived-few)

  module _ (sealed : List RunningEpoch) (ns : List ℕ) (is : sealed ≡ a.sealed.items)
      (same : IsPermutation (numbers_in sealed ++ numbers_of a.running.arrivals.items) ns) where
    pub same_numbers : IsPermutation (arrived_numbers (kept_entries (stored a).journal)) ns
    same_numbers =
        rw (ap (λ (es : List RunningEpoch). numbers_in es ++ numbers_of a.running.arrivals.items) is ∙ sym (arrived-kept a)) at same

    pub as_many : length ns ≡ length (arrived_numbers (kept_entries (stored a).journal))
    as_many = length_permutation (arrived_numbers (kept_entries (stored a).journal)) ns same_numbers

    -- the history after the frames that were taken in are dropped
    pub live_history : (slice : List ℕ) (first second : List Entry) → IsNonDecreasing ns → slice ≡ ns → first ≡ a.history.entries
        → second ≡ first ++ map DropIn slice
        → second ≡ a.history.entries ++ drops_of_taken_in (kept_entries (stored a).journal)
    live_history slice first second sorted e f g =
        g ∙ (λ i. f i ++ map DropIn (e i))
        ∙ ap (λ es. a.history.entries ++ es) (sym (drops-are (stored a).journal ns same_numbers sorted))
