-- How many landings there may be.
use Rattle.std.proofs.{Common.{ℕ, ◌+◌, ◌≤◌, List, [], ◌∷◌, length, ap, arith}, lemmas.List.{length-append, length-map}}
use Rattle.arrayvec.specs.ArrayVec.{ArrayVec}
use Rattle.frame_ports.specs.{Addresses.{paired_with, targets_of}, Numbers.{landing, after_landing}, Ports.PortsState}
use Rattle.frame_ports.specs.declared.landing.Landing.{Landing}
use Rattle.frame_ports.specs.declared.landing.Landing.TheVariants.{In, Dropped, Old}
use Rattle.output_gate.specs.Landings.{clients_for, landed_for, puts, drops, landed_of, dropped_of, landed_count, dropped_count}
use Rattle.output_gate.specs.laws.Ports.{boxes_count-for}

-- a landing counts once at most
one_most : (l : Landing) → puts l + drops l ≤ 1
one_most In = omega arith
one_most Dropped = omega arith
one_most Old = omega arith

-- so does a frame for each of its clients
for_most : (p : PortsState) (cs : List ℕ) (n : ℕ) (f : ArrayVec ℕ) → landed_of p cs n f + dropped_of p cs n f ≤ length cs
for_most p [] n f = omega arith
for_most p (c ∷ cs) n f = omega (arith, one_most (landing p c n), for_most (after_landing p c n f) cs n f)

pub landings_most : (p : PortsState) (first : ℕ) (fs : List (ArrayVec ℕ))
    → landed_count p first fs + dropped_count p first fs ≤ length (targets_of (length p.boxes) fs)
landings_most p first [] = omega arith
landings_most p first (f ∷ fs) =
    let cs = clients_for p f in
    let q = landed_for p cs first f in
    let same = ap (λ k. length (targets_of k fs)) (boxes_count-for first f p cs) in
    let both = length-append (paired_with cs f) (targets_of (length p.boxes) fs) in
    let here = length-map {B = ℕ × ArrayVec ℕ} cs (λ c. (c, f)) in
    omega (arith, for_most p cs first f, landings_most q (first + 1) fs, same, both, here)
