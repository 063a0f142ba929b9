-- The lines of a file, and the clients that they are of.
use Rattle.std.specs.Prelude.{◌≡◌, ℕ, ◌==◌, ◌≤◌, false, List, [], ◌∷◌, map}
use Rattle.std.specs.List.{list_any}
use Rattle.pair_run.specs.declared.run_file.ClientLine.{ClientLine}

-- each of these is the number of a client of a pair that has so many, and none stands there twice
abbrev pub AreClients : ℕ → List ℕ → Type 0
AreClients count [] = Unit {0}
AreClients count (c ∷ cs) = (1 ≤ c) × (c ≤ count) × (list_any (λ d. d == c) cs ≡ false) × AreClients count cs

-- the clients of some lines
abbrev pub clients_of : List ClientLine → List ℕ
clients_of lines = map (λ line. line.client) lines
