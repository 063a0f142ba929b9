-- How many entries there are in all, the history's and those that are kept.
use Rattle.std.proofs.Common.{arith, ◌≡◌, ℕ, zero, suc, ◌+◌, ◌≤◌, List, [], ◌∷◌, ◌++◌, length, replicate, refl, sym, ap, ◌∙◌, Bool, true, false, cond}
use Rattle.std.proofs.{lemmas.List.{length-append}}
use Rattle.std.specs.Prelude.{nat_le}
use Rattle.frame_ports.specs.Addresses.{targets_of}
use Rattle.output_gate.specs.Epochs.{Epoch, frames_of, frames_to}
use Rattle.pair_history.specs.Entries.{Entry}
use Rattle.frame_ports.specs.laws.Addresses.{targets_of-append}
use Rattle.pair_record.specs.Journal.{Journal, all_entries, joined, committed, entered, first_of, rest_of, sealed_as, with_history, with_moves, with_running}
use Rattle.pair_record.specs.declared.event.{Event.TheVariants.Step, Reply.Reply}
use Rattle.pair_history.specs.laws.Joined.{joined-push, length-all}
use Rattle.pair_nodes.specs.Runs.{calls_in}

abbrev pub count : Journal → ℕ
count j = length (all_entries j)

pub same-count : {m n : ℕ} → m ≡ n → m ≤ n + 0
same-count {m} {n} e = omega (arith, e)

pub history_counts : (j : Journal) (es : List Entry) → count (with_history j es) ≡ count j + length es
history_counts j es =
    let a = length-all (with_history j es) in
    let b = length-all j in
    let c = length-append j.history es in
    omega arith

pub running_counts : (j : Journal) (es : List Entry) → count (with_running j es) ≡ count j + length es
running_counts j es =
    let a = length-all (with_running j es) in
    let b = length-all j in
    let c = length-append j.running es in
    omega arith

pub moves_counts : (t : Bool) (j : Journal) (es : List Entry) → count (with_moves t j es) ≡ count j + length es
moves_counts true j es = history_counts j es
moves_counts false j es = running_counts j es

pub cut_counts : (j : Journal) → count (sealed_as j.running [] j) ≡ count j
cut_counts j =
    let a = length-all (sealed_as j.running [] j) in
    let b = length-all j in
    let c = ap (λ (es : List Entry). length es) (joined-push j.sealed j.running) ∙ length-append (joined j.sealed) j.running in
    omega arith

first-rest : (ess : List (List Entry)) → length (first_of ess) + length (joined (rest_of ess)) ≡ length (joined ess)
first-rest [] = refl
first-rest (es ∷ ess) = sym (length-append es (joined ess))

pub commit_counts : (j : Journal) → count (committed j) ≡ count j
commit_counts j =
    let a = length-all (committed j) in
    let b = length-all j in
    let c = length-append j.history (first_of j.sealed) in
    let d = first-rest j.sealed in
    omega arith

pub entered_counts : (j : Journal) (es : List Entry) → count (with_history (entered j.running [] j) es) ≡ count j + length es
entered_counts j es =
    let a = history_counts (entered j.running [] j) es in
    let b = length-all (entered j.running [] j) in
    let c = length-all j in
    let d = length-append j.history (joined j.sealed ++ j.running) in
    let e = length-append (joined j.sealed) j.running in
    omega arith

-- an empty epoch is sealed
pub protect_counts : (j : Journal) → count (sealed_as [] j.running j) ≡ count j
protect_counts j =
    let a = length-all (sealed_as [] j.running j) in
    let b = length-all j in
    let c = ap (λ (es : List Entry). length es) (joined-push j.sealed []) ∙ length-append (joined j.sealed) [] in
    omega arith

-- what an acknowledgement lets out is part of what is held
pub targets-part : (n m : ℕ) (es : List Epoch) → length (targets_of n (frames_to m es)) ≤ length (targets_of n (frames_of es))
targets-part n m [] = omega arith
targets-part n m (e ∷ es) =
    let later = targets-part n m es in
    let all = ap (λ ts. length ts) (targets_of-append n e.frames (frames_of es)) ∙ length-append (targets_of n e.frames) (targets_of n (frames_of es)) in
    let some = ap (λ ts. length ts) (targets_of-append n e.frames (frames_to m es)) ∙ length-append (targets_of n e.frames) (targets_of n (frames_to m es)) in
    by_test (nat_le e.number m) later all some
  where
    by_test : (t : Bool) → length (targets_of n (frames_to m es)) ≤ length (targets_of n (frames_of es))
        → length (targets_of n (e.frames ++ frames_of es)) ≡ length (targets_of n e.frames) + length (targets_of n (frames_of es))
        → length (targets_of n (e.frames ++ frames_to m es)) ≡ length (targets_of n e.frames) + length (targets_of n (frames_to m es))
        → length (targets_of n (cond t (e.frames ++ frames_to m es) (frames_to m es))) ≤ length (targets_of n (e.frames ++ frames_of es))
    by_test true later all some = omega arith
    by_test false later all some = omega arith

-- steps are no calls
pub no_calls : (n : ℕ) (replies : List Reply) → calls_in (replicate n Step) replies ≡ []
no_calls zero replies = refl
no_calls (suc n) [] = refl
no_calls (suc n) (reply ∷ replies) = no_calls n replies
