-- Clients that sit at their places until their lines take them.
use Rattle.std.proofs.Common.{◌≡◌, ◌≢◌, ℕ, zero, suc, ◌+◌, ◌-◌, ◌==◌, ◌≤◌, ◌<◌, false, ◌⊎◌, inl, inr, List, [], ◌∷◌, map, length}
use Rattle.std.proofs.Common.{Option, Some, None, get_or, set, refl, sym, ap, subst, ◌∙◌, arith, length-append, add-one}
use Rattle.std.proofs.lemmas.Bool.{cases_lt}
use Rattle.std.proofs.lemmas.List.{get_or-set_other, get_or_append_left, get_or-append_right, get_or-map}
use Rattle.std.specs.List.{list_any}
use Rattle.hypervisor.specs.Clients.{ClientState}
use Rattle.hypervisor.specs.Opening.{new_client, new_clients}
use Rattle.pair_threads.specs.Lines.{AreClients}
use Rattle.pair_threads.specs.Seats.{AreSeated}
use Rattle.pair_threads.proofs.LineLemmas.{neither}

differs : (c d : ℕ) → (d == c) ≡ false → 1 ≤ c → 1 ≤ d → d - 1 ≢ c - 1
differs c d other low low' = grind arith

-- one client has left its place; the others sit at theirs
pub taken : (seats : List (Option ClientState)) (cs : List ℕ) (c : ℕ) → 1 ≤ c → list_any (λ d. d == c) cs ≡ false → AreSeated seats cs
    → AreSeated (set seats (c - 1) None) cs
taken seats [] c low none are = tt
taken seats (d ∷ ds) c low none are =
    let parts = neither (d == c) (list_any (λ x. x == c) ds) none in (
      are.0,
      get_or-set_other seats (c - 1) (d - 1) None None (differs c d parts.0 low are.0) ∙ are.1,
      are.2,
      taken seats ds c low parts.1 are.3,
    )

count : (n : ℕ) → length (new_clients n) ≡ n
count zero = refl
count (suc n) = let h = count n in omega (arith, length-append (new_clients n) (new_client (n + 1) ∷ []))

placed : (n c : ℕ) → 1 ≤ c → c ≤ n + 1 → (c ≤ n → get_or (new_clients n) (c - 1) (new_client 0) ≡ new_client c) → (n < c) ⊎ (c ≤ n)
    → get_or (new_clients (suc n)) (c - 1) (new_client 0) ≡ new_client c
placed n c low most before (inl last) =
    let h = count n in
    let here : n + 1 ≡ c = omega arith in
    let first : c - 1 - n ≡ 0 = omega arith in
    get_or-append_right (new_clients n) (new_client (n + 1) ∷ []) n (c - 1) (new_client 0) h (omega arith)
    ∙ (ap (λ k. get_or (new_client (n + 1) ∷ []) k (new_client 0)) first ∙ ap new_client here)
placed n c low most before (inr earlier) =
    let h = count n in
    get_or_append_left (new_clients n) (new_client (n + 1) ∷ []) (new_client 0) (c - 1) (omega arith) ∙ before earlier

is-there : (n c : ℕ) → 1 ≤ c → c ≤ n → get_or (new_clients n) (c - 1) (new_client 0) ≡ new_client c
is-there zero c low most = absurd (omega arith)
is-there (suc n) c low most = placed n c low (subst (λ k. c ≤ k) (sym (add-one n)) most) (is-there n c low) (cases_lt n c)

pub all-seated : (n : ℕ) (cs : List ℕ) → AreClients n cs → AreSeated (map Some (new_clients n)) cs
all-seated n [] are = tt
all-seated n (c ∷ cs) are =
    let h = count n in (
      are.0,
      get_or-map Some (new_clients n) (c - 1) (new_client 0) None (omega arith) ∙ ap Some (is-there n c are.0 are.1),
      are.2,
      all-seated n cs are.3,
    )
