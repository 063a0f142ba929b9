-- The frames on their way to a client, of those that the guest sent, are those addressed to it.
use Rattle.std.proofs.Common.{◌≡◌, ℕ, zero, suc, ◌+◌, ◌<◌, ◌≤◌, List, [], ◌∷◌, refl, arith, cond}
use Rattle.std.specs.List.{filter}
use Rattle.std.proofs.lemmas.Bool.Decides.{nat_tests}
use Rattle.frame_ports.specs.Addresses.{addressed, clients_from, clients_of, paired_with, targets_of}
use Rattle.pair_history.specs.Entries.{Frame}
use Rattle.pair_history.specs.HistoryState.{out_of}
use Rattle.pair_history.specs.laws.Leaving.{out_of-append}

-- of clients from a later one on, none is this one
none-later : (c n first : ℕ) (bytes : List ℕ) (f : Frame) → c < first → out_of c (paired_with (clients_from n first bytes) f) ≡ []
none-later c zero first bytes f l = refl
none-later c (suc n) first bytes f l = grind (arith, nat_tests, none-later c n (first + 1) bytes f)

one-frame : (c n first : ℕ) (bytes : List ℕ) (f : Frame) → first ≤ c → c < first + n
    → out_of c (paired_with (clients_from n first bytes) f) ≡ cond (addressed bytes c) (f ∷ []) []
one-frame c zero first bytes f low high = absurd (omega arith)
one-frame c (suc n) first bytes f low high =
    grind (arith, nat_tests, none-later c n (first + 1) bytes f, one-frame c n (first + 1) bytes f)

-- what is on its way to client c of frames sent
pub out_of-targets : (c n : ℕ) (fs : List Frame) → 1 ≤ c → c ≤ n → out_of c (targets_of n fs) ≡ filter (λ f. addressed f.items c) fs
out_of-targets c n [] low high = refl
out_of-targets c n (f ∷ fs) low high =
    let rest = out_of-targets c n fs low high in
    let here = one-frame c n 1 f.items f low (omega arith) in
    grind (arith, out_of-append c (paired_with (clients_of n f.items) f) (targets_of n fs))

-- what `sent_frames_go_by_address` follows from
pub ruleset address_laws = (out_of-targets)
