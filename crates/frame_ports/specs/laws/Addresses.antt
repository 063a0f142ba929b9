-- A frame's clients, and the pairs of clients and frames: in two parts, in range, and no more than there are clients.
use Rattle.std.proofs.Common.{◌≡◌, ℕ, zero, suc, ◌+◌, ◌*◌, ◌<◌, ◌≤◌, Bool, true, false, if◌then◌else◌, List, [], ◌∷◌, ◌++◌, length, refl}
use Rattle.std.proofs.Common.{sym, ◌∙◌}
use Rattle.std.proofs.Common.{ap, arith, All, append_assoc, length-append}
use Rattle.std.proofs.lemmas.List.{length-map}
use Rattle.std.proofs.lemmas.List.Elements.{All-append, All-nil, All-cons, All-map}
use Rattle.arrayvec.specs.ArrayVec.{ArrayVec}
use Rattle.frame_ports.specs.Addresses.{addressed, clients_from, clients_of, paired_with, targets_of}

-- the frames in two parts
pub targets_of-append : (count : ℕ) (fs gs : List (ArrayVec ℕ)) → targets_of count (fs ++ gs) ≡ targets_of count fs ++ targets_of count gs
targets_of-append count [] gs = refl
targets_of-append count (f ∷ fs) gs =
    ap (λ (l : List (ℕ × ArrayVec ℕ)). paired_with (clients_of count f.items) f ++ l) (targets_of-append count fs gs)
    ∙ sym (append_assoc (paired_with (clients_of count f.items) f) (targets_of count fs) (targets_of count gs))

-- the clients in two parts
pub clients_from-add : (m n first : ℕ) (bytes : List ℕ) →
    clients_from (m + n) first bytes ≡ clients_from m first bytes ++ clients_from n (first + m) bytes
clients_from-add zero n first bytes =
    let none : 0 + n ≡ n = omega arith in
    let same : first ≡ first + 0 = omega arith in
    ap (λ k. clients_from k first bytes) none ∙ ap (λ k. clients_from n k bytes) same
clients_from-add (suc m) n first bytes =
    let back : suc m + n ≡ suc (m + n) = omega arith in
    let along : first + 1 + m ≡ first + suc m = omega arith in
    ap (λ k. clients_from k first bytes) back
    ∙ by_test (addressed bytes first) (clients_from-add m n (first + 1) bytes
    ∙ ap (λ k. clients_from m (first + 1) bytes ++ clients_from n k bytes) along)
  where
    by_test : (b : Bool) → clients_from (m + n) (first + 1) bytes ≡ clients_from m (first + 1) bytes ++ clients_from n (first + suc m)
        bytes → (if b then first ∷ clients_from (m + n) (first + 1) bytes else clients_from (m + n) (first + 1) bytes)
        ≡ (if b then first ∷ clients_from m (first + 1) bytes else clients_from m (first + 1) bytes) ++ clients_from n (first + suc m) bytes
    by_test true rest = ap (λ (l : List ℕ). first ∷ l) rest
    by_test false rest = rest

-- each of them is in range, and they are not more than there are
pub clients_from-range : (n first : ℕ) (bytes : List ℕ) → All (λ c. (first ≤ c) × (c < first + n)) (clients_from n first bytes)
clients_from-range zero first bytes = All-nil (λ c. (first ≤ c) × (c < first + 0))
clients_from-range (suc n) first bytes = by_test (addressed bytes first)
    (wider (clients_from n (first + 1) bytes) (clients_from-range n (first + 1) bytes))
  where
    wider : (l : List ℕ) → All (λ c. (first + 1 ≤ c) × (c < first + 1 + n)) l → All (λ c. (first ≤ c) × (c < first + suc n)) l
    wider l all = λ k d inside. let at = all k d inside in (omega (arith, at.0), omega (arith, at.1))

    by_test : (b : Bool) → All (λ c. (first ≤ c) × (c < first + suc n)) (clients_from n (first + 1) bytes) →
        All (λ c. (first ≤ c) × (c < first + suc n))
        (if b then first ∷ clients_from n (first + 1) bytes else clients_from n (first + 1) bytes)
    by_test true rest = All-cons (λ c. (first ≤ c) × (c < first + suc n)) first (clients_from n (first + 1) bytes)
        (omega arith, omega arith) rest
    by_test false rest = rest

pub length-clients_from : (n first : ℕ) (bytes : List ℕ) → length (clients_from n first bytes) ≤ n
length-clients_from zero first bytes = omega arith
length-clients_from (suc n) first bytes = by_test (addressed bytes first) (length-clients_from n (first + 1) bytes)
  where
    by_test : (b : Bool) → length (clients_from n (first + 1) bytes) ≤ n →
        length (if b then first ∷ clients_from n (first + 1) bytes else clients_from n (first + 1) bytes) ≤ suc n
    by_test true rest = omega arith
    by_test false rest = omega arith

pub length-targets_of : (count : ℕ) (fs : List (ArrayVec ℕ)) → length (targets_of count fs) ≤ length fs * count
length-targets_of count [] = omega arith
length-targets_of count (f ∷ fs) =
    omega (
      arith,
      length-append (paired_with (clients_of count f.items) f) (targets_of count fs),
      length-map (clients_of count f.items) (λ c. let p : ℕ × ArrayVec ℕ = (c, f) in p),
      length-clients_from count 1 f.items,
      length-targets_of count fs,
    )

-- each pair has a client's number and one of the frames
pub targets_of-clients : (count : ℕ) (fs : List (ArrayVec ℕ)) → All (λ p. (1 ≤ p.0) × (p.0 ≤ count)) (targets_of count fs)
targets_of-clients count [] = All-nil (λ p. (1 ≤ p.0) × (p.0 ≤ count))
targets_of-clients count (f ∷ fs) =
    All-append (λ p. (1 ≤ p.0) × (p.0 ≤ count)) (paired_with (clients_of count f.items) f) (targets_of count fs)
    (All-map (λ p. (1 ≤ p.0) × (p.0 ≤ count)) (λ c. (c, f)) (clients_of count f.items)
    (λ k d inside. let at = clients_from-range count 1 f.items k d inside in (at.0, omega (arith, at.1))))
    (targets_of-clients count fs)
