-- The clients of a pair, each at its place until its line takes it.
use Rattle.std.specs.Prelude.{◌≡◌, ℕ, ◌-◌, ◌==◌, ◌≤◌, false, List, [], ◌∷◌, Option, Some, None, get_or}
use Rattle.std.specs.List.{list_any}
use Rattle.hypervisor.specs.Clients.{ClientState}
use Rattle.hypervisor.specs.Opening.{new_client}

-- client c, which has seen nothing, sits at place c - 1
abbrev pub sits : List (Option ClientState) → ℕ → Type 0
sits seats c = get_or seats (c - 1) None ≡ Some (new_client c)

-- each of these clients sits at its place, and none of them stands there twice
abbrev pub AreSeated : List (Option ClientState) → List ℕ → Type 0
AreSeated seats [] = Unit {0}
AreSeated seats (c ∷ cs) = (1 ≤ c) × sits seats c × (list_any (λ d. d == c) cs ≡ false) × AreSeated seats cs
