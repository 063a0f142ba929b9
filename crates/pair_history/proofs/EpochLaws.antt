-- Laws of an epoch's beginning and of what is behind it.
use Rattle.std.proofs.Common.{arith, ◌≡◌, ℕ, zero, suc, ◌≤◌, List, [], ◌∷◌, ◌++◌, length, take, drop, refl, sym, ap, ◌∙◌}
use Rattle.std.proofs.Common.{append_assoc}
use Rattle.pair_history.specs.Entries.{Entry, Ran, Arrive}
use Rattle.pair_history.specs.declared.epochs.Arrival.{Arrival}
use Rattle.pair_history.specs.Epochs.{up_to, behind, guest_epoch}
use Rattle.pair_history.specs.internal.Arrivals.{steps_of, arrival_of, arrivals_of, epoch_entries}

-- AS THEY ARE STORED

up_to-steps : (n k : ℕ) (es : List Entry) → up_to (suc n) (steps_of k ++ es) ≡ steps_of k ++ up_to (suc n) es
up_to-steps n zero es = refl
up_to-steps n (suc k) es = ap (λ t. Ran ∷ t) (up_to-steps n k es)

behind-steps : (n k : ℕ) (es : List Entry) → behind (suc n) (steps_of k ++ es) ≡ behind (suc n) es
behind-steps n zero es = refl
behind-steps n (suc k) es = behind-steps n k es

-- an arrival with the steps before it, and what follows
module _ (x : Arrival) (arrivals : List Arrival) (k : ℕ) where
  epoch-first : epoch_entries (x ∷ arrivals) k ≡ steps_of x.steps ++ (Arrive x.number ∷ epoch_entries arrivals k)
  epoch-first =
      append_assoc (arrival_of x) (arrivals_of arrivals) (steps_of k)
      ∙ append_assoc (steps_of x.steps) (Arrive x.number ∷ []) (epoch_entries arrivals k)

pub up_to-stored : (n : ℕ) (arrivals : List Arrival) (k : ℕ) → n ≤ length arrivals
    → up_to n (epoch_entries arrivals k) ≡ arrivals_of (take n arrivals)
up_to-stored zero arrivals k l = refl
up_to-stored (suc n) [] k l = absurd (omega arith)
up_to-stored (suc n) (x ∷ arrivals) k l =
    ap (up_to (suc n)) (epoch-first x arrivals k)
    ∙ up_to-steps n x.steps (Arrive x.number ∷ epoch_entries arrivals k)
    ∙ ap (λ t. steps_of x.steps ++ (Arrive x.number ∷ t)) (up_to-stored n arrivals k (omega arith))
    ∙ sym (append_assoc (steps_of x.steps) (Arrive x.number ∷ []) (arrivals_of (take n arrivals)))

pub behind-stored : (n : ℕ) (arrivals : List Arrival) (k : ℕ) → n ≤ length arrivals
    → behind n (epoch_entries arrivals k) ≡ epoch_entries (drop n arrivals) k
behind-stored zero arrivals k l = refl
behind-stored (suc n) [] k l = absurd (omega arith)
behind-stored (suc n) (x ∷ arrivals) k l =
    ap (behind (suc n)) (epoch-first x arrivals k)
    ∙ behind-steps n x.steps (Arrive x.number ∷ epoch_entries arrivals k)
    ∙ behind-stored n arrivals k (omega arith)

-- an epoch that was split off, and what stayed
module _ (n steps k m : ℕ) (arrivals first : List Arrival) (few : n ≤ length arrivals) where
  pub first-is : first ≡ take n arrivals → m ≡ steps → epoch_entries first m ≡ guest_epoch n steps (epoch_entries arrivals k)
  first-is e f = (λ i. epoch_entries (e i) (f i)) ∙ ap (λ t. t ++ steps_of steps) (sym (up_to-stored n arrivals k few))

  pub others-are : first ≡ drop n arrivals → m ≡ k → epoch_entries first m ≡ behind n (epoch_entries arrivals k)
  others-are e f = (λ i. epoch_entries (e i) (f i)) ∙ sym (behind-stored n arrivals k few)
