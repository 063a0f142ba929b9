-- Laws of the frames' clients.
use Rattle.std.proofs.Common.{◌≡◌, ℕ, ◌+◌, ◌≤◌, Bool, if◌then◌else◌, ◌&&◌, nat_le, List, [], ◌∷◌, ◌++◌, refl, sym, ◌∙◌, ap, All}
use Rattle.std.proofs.lemmas.Bool.{le-leb}
use Rattle.std.proofs.lemmas.List.Elements.{All-append, All-nil, All-map, All-head, All-tail}
use Rattle.arrayvec.specs.ArrayVec.{ArrayVec}
use Rattle.frame_ports.specs.Addresses.{addressed, clients_from, clients_of, paired_with, targets_of}
use Rattle.frame_ports.specs.laws.Addresses.{clients_from-add}

-- one client more, at the end
pub clients_from-one : (first : ℕ) (bytes : List ℕ) → clients_from 1 first bytes ≡ (if addressed bytes first then first ∷ [] else [])
clients_from-one first bytes = refl

-- of one client more, the last is there exactly where the frame is addressed to it
pub clients_from-more : (n first : ℕ) (bytes : List ℕ) →
    clients_from (n + 1) first bytes ≡ clients_from n first bytes ++ (if addressed bytes (first + n) then (first + n) ∷ [] else [])
clients_from-more n first bytes = clients_from-add n 1 first bytes

-- what a test of a frame's targets says of the address, at one of the clients
pub addressed-target : (count c : ℕ) (bytes : List ℕ) (t : Bool) → c ≤ count → t ≡ (nat_le c count && addressed bytes c) →
    addressed bytes c ≡ t
addressed-target count c bytes t within is = sym (is ∙ ap (λ b. b && addressed bytes c) (le-leb c count within))

pub targets_of-frames : (P : ArrayVec ℕ → Type 0) (count : ℕ) (fs : List (ArrayVec ℕ)) → All P fs → All (λ p. P p.1) (targets_of count fs)
targets_of-frames P count [] all = All-nil (λ p. P p.1)
targets_of-frames P count (f ∷ fs) all =
    All-append (λ p. P p.1) (paired_with (clients_of count f.items) f) (targets_of count fs)
    (All-map (λ p. P p.1) (λ c. (c, f)) (clients_of count f.items) (λ k d inside. All-head P f fs all))
    (targets_of-frames P count fs (All-tail P f fs all))
