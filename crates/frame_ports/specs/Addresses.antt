-- To whom a guest frame goes.
use Rattle.std.specs.Prelude.{ℕ, ◌+◌, ◌≤◌, zero, suc, Bool, ◌||◌, List, [], ◌∷◌, ◌++◌, length, map, nat_eq, if◌then◌else◌}
use Rattle.std.specs.List.{starts_with}
use Rattle.arrayvec.specs.ArrayVec.{ArrayVec}
use Rattle.frame_ports.specs.Limits.{min_frame, max_frame}

-- a frame has 14 to 1514 bytes: an Ethernet header of 14, and at most 1500 behind it
abbrev pub IsFrame : ArrayVec ℕ → Type 0
IsFrame f = (min_frame ≤ length f.items) × (length f.items ≤ max_frame)

-- the address map's MAC address of client c: 02:00:00:00:01:cc
abbrev pub client_address : ℕ → List ℕ
client_address c = 2 ∷ 0 ∷ 0 ∷ 0 ∷ 1 ∷ c ∷ []

-- Ethernet's broadcast address: all six bytes are 0xff
abbrev pub broadcast_address : List ℕ
broadcast_address = 255 ∷ 255 ∷ 255 ∷ 255 ∷ 255 ∷ 255 ∷ []

-- a frame's first six bytes name client c, or everyone
unfoldable pub addressed : List ℕ → ℕ → Bool
addressed bytes c = starts_with nat_eq bytes (client_address c) || starts_with nat_eq bytes broadcast_address

-- of that many client numbers, from the first one on, those to whom the frame is addressed, rising
abbrev pub clients_from : ℕ → ℕ → List ℕ → List ℕ
clients_from zero first bytes = []
clients_from (suc n) first bytes =
    if addressed bytes first then first ∷ clients_from n (first + 1) bytes else clients_from n (first + 1) bytes

-- the clients, of that many, to whom the frame goes
abbrev pub clients_of : ℕ → List ℕ → List ℕ
clients_of count bytes = clients_from count 1 bytes

-- the frame with each of those clients
abbrev pub paired_with : List ℕ → ArrayVec ℕ → List (ℕ × ArrayVec ℕ)
paired_with clients f = map (λ c. (c, f)) clients

-- the frames in order, each with its clients, of that many, in rising order
abbrev pub targets_of : ℕ → List (ArrayVec ℕ) → List (ℕ × ArrayVec ℕ)
targets_of count [] = []
targets_of count (f ∷ fs) = paired_with (clients_of count f.items) f ++ targets_of count fs
