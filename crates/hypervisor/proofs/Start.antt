-- The clients at the start.
use Rattle.std.proofs.Common.{◌≡◌, ℕ, ◌+◌, ◌-◌, List, [], ◌∷◌, ◌++◌, sym, ap, ◌∙◌, arith, add-one}
use Rattle.growing_history.specs.LogState.{line_seat}
use Rattle.growing_history.specs.Views.{Member}
use Rattle.hypervisor.specs.Clients.{ClientState, client_state}
use Rattle.hypervisor.specs.Opening.{new_client, new_clients}

-- one client more
pub next-client : (n : ℕ) (cs : List ClientState) (m : Member) → cs ≡ new_clients n
    → m ≡ record { number = line_seat + n + 1; steps = [] } → cs ++ client_state m ∷ [] ≡ new_clients (n + 1)
next-client n cs m is seat =
    let number : line_seat + n + 1 - line_seat ≡ n + 1 = omega arith in
    ap (λ (xs : List ClientState). xs ++ client_state m ∷ []) is
    ∙ (ap (λ (s : Member). new_clients n ++ client_state s ∷ []) seat
    ∙ (ap (λ (k : ℕ). new_clients n ++ new_client k ∷ []) number ∙ ap new_clients (sym (add-one n))))
