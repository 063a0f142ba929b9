-- For how many clients frames are new, by the numbers of the clients before any of them lands.
use Rattle.std.specs.Prelude.{ℕ, ◌+◌, List, [], ◌∷◌, if◌then◌else◌}
use Rattle.frame_ports.specs.Numbers.{is_new}
use Rattle.frame_ports.specs.Ports.{PortsState}
use Rattle.output_gate.specs.Landings.{clients_for}
use Rattle.pair_history.specs.Entries.{Frame}

-- 1 where frame n is new for client c
abbrev pub new_one : PortsState → ℕ → ℕ → ℕ
new_one p c n = if is_new p c n then 1 else 0

-- for how many of these clients frame n is
abbrev pub new_for : PortsState → List ℕ → ℕ → ℕ
new_for p [] n = 0
new_for p (c ∷ cs) n = new_one p c n + new_for p cs n

-- of these frames in order, the first of them under that number, each counted for each of its clients
abbrev pub new_after : PortsState → ℕ → List Frame → ℕ
new_after p first [] = 0
new_after p first (f ∷ fs) = new_for p (clients_for p f) first + new_after p (first + 1) fs
