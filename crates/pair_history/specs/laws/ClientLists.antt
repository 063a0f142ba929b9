-- Laws of one client's lists: the frames on their way to it, and those in its box.
use Rattle.std.proofs.Common.{◌≡◌, ℕ, zero, suc, ◌≤◌, List, [], ◌∷◌, length, remove, arith, cond}
use Rattle.std.specs.Prelude.{◌==◌}
use Rattle.std.proofs.lemmas.Bool.Decides.{nat_tests}
use Rattle.std.proofs.lemmas.List.{get_or-set_same, get_or-set_other}
use Rattle.frame_ports.specs.Lands.{list_of, with_list}
use Rattle.pair_history.specs.Entries.{Frame}
use Rattle.pair_history.specs.HistoryState.{out_of, out_without}

-- What is on its way to a client.

pub out_of-without : (c d place : ℕ) (ps : List (ℕ × Frame))
    → out_of c (out_without d place ps) ≡ cond (d == c) (remove (out_of c ps) place) (out_of c ps)
out_of-without c d zero [] = grind (arith, nat_tests)
out_of-without c d (suc place) [] = grind (arith, nat_tests)
out_of-without c d place (p ∷ ps) = let more = λ (k : ℕ). out_of-without c d k ps in grind (arith, nat_tests)

-- A client's box where a client's was written.
pub list_of-with : (boxes : List (List Frame)) (c d : ℕ) (fs : List Frame) → 1 ≤ c → 1 ≤ d → d ≤ length boxes
    → list_of (with_list boxes d fs) c ≡ cond (d == c) fs (list_of boxes c)
list_of-with boxes c d fs low_c low_d high = grind (arith, nat_tests, get_or-set_same, get_or-set_other)
