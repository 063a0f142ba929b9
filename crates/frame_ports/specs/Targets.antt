-- The clients to whom one frame goes, as a number: bit c - 1 for client c.
use Rattle.std.specs.Prelude.{◌≡◌, ℕ, ◌-◌, ◌≤◌, Bool, ◌&&◌, List, nat_le, ◌==◌}
use Rattle.std.specs.Int.{bit_at}
use Rattle.frame_ports.specs.Addresses.{addressed}
use Rattle.frame_ports.specs.Limits.{max_clients}

-- client c is among them
abbrev pub has_target : ℕ → ℕ → Bool
has_target targets c = nat_le 1 c && (nat_le c max_clients && (bit_at targets (c - 1) == 1))

-- they are the clients, of that many, to whom the frame is addressed
abbrev pub AreTargets : ℕ → List ℕ → ℕ → Type 0
AreTargets count bytes targets =
    (c : ℕ) → 1 ≤ c → c ≤ max_clients → has_target targets c ≡ (nat_le c count && addressed bytes c)
