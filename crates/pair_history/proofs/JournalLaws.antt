-- Laws of stored epochs.
use Rattle.std.proofs.Common.{rules, arith, ◌≡◌, ℕ, ◌+◌, List, [], ◌∷◌, ◌++◌, sym, ap, ◌∙◌, append_assoc}
use Rattle.std.proofs.lemmas.List.{append-nil, replicate-append-replicate}
use Rattle.pair_history.specs.Entries.{Ran, Arrive}
use Rattle.pair_history.specs.declared.epochs.Arrival.{Arrival}
use Rattle.pair_history.specs.internal.Arrivals.{steps_of, arrival_of, arrivals_of, epoch_entries}

-- an epoch goes on by steps, or by an arrival

pub epoch-steps : (arrivals : List Arrival) (n k : ℕ) → epoch_entries arrivals n ++ steps_of k ≡ epoch_entries arrivals (n + k)
epoch-steps arrivals n k = append_assoc (arrivals_of arrivals) (steps_of n) (steps_of k)
    ∙ ap (λ t. arrivals_of arrivals ++ t) (replicate-append-replicate n k Ran)

arrivals_of-push : (arrivals : List Arrival) (x : Arrival) → arrivals_of (arrivals ++ x ∷ []) ≡ arrivals_of arrivals ++ arrival_of x
arrivals_of-push [] x = append-nil (arrival_of x)
arrivals_of-push (y ∷ arrivals) x = ap (λ t. arrival_of y ++ t) (arrivals_of-push arrivals x)
    ∙ sym (append_assoc (arrival_of y) (arrivals_of arrivals) (arrival_of x))

pub epoch-arrives : (arrivals : List Arrival) (n k : ℕ)
    → epoch_entries arrivals n ++ Arrive k ∷ [] ≡ epoch_entries (arrivals ++ record { steps = n; number = k } ∷ []) 0
epoch-arrives arrivals n k = search (arith, rules, append-nil, append_assoc, arrivals_of-push)
