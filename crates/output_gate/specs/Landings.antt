-- Frames of the guest land under their numbers: each in the boxes of its clients, in rising order.
use Rattle.std.specs.Prelude.{◌≡◌, ℕ, ◌+◌, ◌<◌, ◌≤◌, List, [], ◌∷◌, length, All, if◌then◌else◌}
use Rattle.arrayvec.specs.ArrayVec.{ArrayVec}
use Rattle.frame_ports.specs.Addresses.{addressed, clients_of}
use Rattle.frame_ports.specs.Numbers.{last_come, landing, after_landing}
use Rattle.frame_ports.specs.Ports.{PortsState}
use Rattle.frame_ports.specs.declared.landing.Landing.{Landing}
use Rattle.frame_ports.specs.declared.landing.Landing.TheVariants.{In, Dropped, Old}

-- the clients to whom the frame goes, rising
abbrev pub clients_for : PortsState → ArrayVec ℕ → List ℕ
clients_for p f = clients_of (length p.boxes) f.items

-- the ports after frame n, which is f, has come for each of these clients in turn
abbrev pub landed_for : PortsState → List ℕ → ℕ → ArrayVec ℕ → PortsState
landed_for p [] n f = p
landed_for p (c ∷ cs) n f = landed_for (after_landing p c n f) cs n f

-- the ports after these frames have landed in order; the first one's number is given, and each has the number after the one before
abbrev pub ports_after : PortsState → ℕ → List (ArrayVec ℕ) → PortsState
ports_after p first [] = p
ports_after p first (f ∷ fs) = ports_after (landed_for p (clients_for p f) first f) (first + 1) fs

-- a landing counts as one put into a box, or as one dropped at a full box, or as neither
abbrev pub puts : Landing → ℕ
puts In = 1
puts Dropped = 0
puts Old = 0

abbrev pub drops : Landing → ℕ
drops In = 0
drops Dropped = 1
drops Old = 0

-- how many landings of one frame were put into a box, and how many a full box dropped
abbrev pub landed_of : PortsState → List ℕ → ℕ → ArrayVec ℕ → ℕ
landed_of p [] n f = 0
landed_of p (c ∷ cs) n f = puts (landing p c n) + landed_of (after_landing p c n f) cs n f

abbrev pub dropped_of : PortsState → List ℕ → ℕ → ArrayVec ℕ → ℕ
dropped_of p [] n f = 0
dropped_of p (c ∷ cs) n f = drops (landing p c n) + dropped_of (after_landing p c n f) cs n f

-- the same of all these frames, along the same ports
abbrev pub landed_count : PortsState → ℕ → List (ArrayVec ℕ) → ℕ
landed_count p first [] = 0
landed_count p first (f ∷ fs) =
    landed_of p (clients_for p f) first f + landed_count (landed_for p (clients_for p f) first f) (first + 1) fs

abbrev pub dropped_count : PortsState → ℕ → List (ArrayVec ℕ) → ℕ
dropped_count p first [] = 0
dropped_count p first (f ∷ fs) =
    dropped_of p (clients_for p f) first f + dropped_count (landed_for p (clients_for p f) first f) (first + 1) fs

-- what a listener knows, which adds what it hears so, once frame n, which is f, has come for each of these clients in turn; and once these
-- frames have, the first of them under that number
module _ {X : Type 0} (told : X → ℕ → Landing → X) where
  abbrev pub told_of : X → PortsState → List ℕ → ℕ → ArrayVec ℕ → X
  told_of x p [] n f = x
  told_of x p (c ∷ cs) n f = told_of (told x c (landing p c n)) (after_landing p c n f) cs n f

  abbrev pub told_after : X → PortsState → ℕ → List (ArrayVec ℕ) → X
  told_after x p first [] = x
  told_after x p first (f ∷ fs) =
      told_after (told_of x p (clients_for p f) first f) (landed_for p (clients_for p f) first f) (first + 1) fs

-- clients in rising order, each once
abbrev pub AreRising : List ℕ → Type 0
AreRising [] = Unit {0}
AreRising (c ∷ cs) = (1 ≤ c) × All (λ d. c < d) cs × AreRising cs

-- every client's number is below n: frame n came for none of them, nor did one after it
pub record AreBelow (p : PortsState) (n : ℕ) : Type 0 where
  pub below : (c : ℕ) → 1 ≤ c → c ≤ length p.boxes → last_come p c < n

-- each of these frames came before for each of its clients; the first one's number is given
abbrev pub AreOld : PortsState → ℕ → List (ArrayVec ℕ) → Type 0
AreOld p first [] = Unit {0}
AreOld p first (f ∷ fs) = All (λ c. first ≤ last_come p c) (clients_for p f) × AreOld p (first + 1) fs

-- from the ports p to the ports q no client's number has fallen, and the clients are as many
pub record HaveRisen (p q : PortsState) : Type 0 where
  pub clients : length q.boxes ≡ length p.boxes
  pub numbers : (c : ℕ) → 1 ≤ c → c ≤ length p.boxes → last_come p c ≤ last_come q c

-- the number of the last of these frames that goes to client c; where none does, the number before
abbrev pub last_number : ℕ → ℕ → List (ArrayVec ℕ) → ℕ → ℕ
last_number c first [] before = before
last_number c first (f ∷ fs) before = last_number c (first + 1) fs (if addressed f.items c then first else before)
