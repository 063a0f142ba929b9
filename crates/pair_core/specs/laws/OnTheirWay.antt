-- What is on its way to the clients is what the backup's image keeps that has not come for them.
use Rattle.std.proofs.Common.{◌≡◌, ℕ, zero, suc, ◌+◌, ◌-◌, ◌<◌, ◌≤◌, List, [], ◌∷◌, ◌++◌, length, refl, sym, ap, ◌∙◌, arith, append_assoc}
use Rattle.std.proofs.{Common.{true, false, cond}, lemmas.List.Elements.{All-head, All-tail}}
use Rattle.std.specs.{Prelude.{All, slice_index_or}, List.filter}
use Rattle.frame_ports.specs.{Addresses.{paired_with, targets_of}, Numbers.{last_come, is_new}, Ports.PortsState}
use Rattle.output_gate.specs.{Epochs.frames_of, Landings.{AreOld, clients_for}}
use Rattle.backup_image.specs.Images.{ImageState}
use Rattle.pair_history.specs.{Entries.Frame, HistoryState.HistoryState}
use Rattle.pair_record.specs.{Protocol.{Record, shown_at}, Record.{AreNumbered, first_held, owed_to}}
use Rattle.pair_record.specs.Window.{committed_of}
use Rattle.pair_core.specs.Kept.{KeepsFrames, first_kept, kept_targets, new_targets}
use Rattle.pair_core.specs.laws.Kept.{keeps_brings}

new-append : (p : PortsState) (first : ℕ) (fs gs : List Frame)
    → new_targets p first (fs ++ gs) ≡ new_targets p first fs ++ new_targets p (first + length fs) gs
new-append p first [] gs = ap (λ n. new_targets p n gs) (omega arith)
new-append p first (f ∷ fs) gs =
    let here = paired_with (filter (λ c. is_new p c first) (clients_for p f)) f in
    let next : (first + 1) + length fs ≡ first + length (f ∷ fs) = omega arith in
    ap (λ ts. here ++ ts) (new-append p (first + 1) fs gs ∙ ap (λ n. new_targets p (first + 1) fs ++ new_targets p n gs) next)
    ∙ sym (append_assoc here (new_targets p (first + 1) fs) (new_targets p (first + length (f ∷ fs)) gs))

-- a client for whom the frame came already isn't among them
none-new : (p : PortsState) (n : ℕ) (cs : List ℕ) → All (λ c. n ≤ last_come p c) cs → filter (λ c. is_new p c n) cs ≡ []
none-new p n [] old = refl
none-new p n (c ∷ cs) old =
    let low : is_new p c n ≡ false = grind (arith, All-head (λ c. n ≤ last_come p c) c cs old) in
    (λ i. cond (low i) (c ∷ filter (λ c. is_new p c n) cs) (filter (λ c. is_new p c n) cs))
    ∙ none-new p n cs (All-tail (λ c. n ≤ last_come p c) c cs old)

old-none : (p : PortsState) (first : ℕ) (fs : List Frame) → AreOld p first fs → new_targets p first fs ≡ []
old-none p first [] old = refl
old-none p first (f ∷ fs) old =
    ap (λ cs. paired_with cs f ++ new_targets p (first + 1) fs) (none-new p first (clients_for p f) old.0)
    ∙ old-none p (first + 1) fs old.1

-- where none with that number or a later one came for anyone, all are
module _ (p : PortsState) where
  all-new : (n : ℕ) → ((c : ℕ) → last_come p c < n) → (cs : List ℕ) → filter (λ c. is_new p c n) cs ≡ cs
  all-new n below [] = refl
  all-new n below (c ∷ cs) =
      let high : is_new p c n ≡ true = grind (arith, below c) in
      (λ i. cond (high i) (c ∷ filter (λ c. is_new p c n) cs) (filter (λ c. is_new p c n) cs))
      ∙ ap (λ ds. c ∷ ds) (all-new n below cs)

  new-all : (n : ℕ) → ((c : ℕ) → last_come p c < n) → (fs : List Frame) → new_targets p n fs ≡ targets_of (length p.boxes) fs
  new-all n below [] = refl
  new-all n below (f ∷ fs) =
      let later : (c : ℕ) → last_come p c < n + 1 = λ c. let b = below c in omega arith in
      (λ i. paired_with (all-new n below (clients_for p f) i) f ++ new-all (n + 1) later fs i)

-- where every number is below it, so is each client's
index-below : (n : ℕ) → 0 < n → (ns : List ℕ) → All (λ k. k < n) ns → (i : ℕ) → slice_index_or ns i 0 < n
index-below n some [] h i = some
index-below n some (m ∷ ns) h zero = All-head (λ k. k < n) m ns h
index-below n some (m ∷ ns) h (suc i) = index-below n some ns (All-tail (λ k. k < n) m ns h) i

pub on_its_way : (start : HistoryState) (r : Record) (p : PortsState) (i : ImageState) → (shown_at start r).out ≡ owed_to r p
    → AreNumbered r p → KeepsFrames r p i → (shown_at start r).out ≡ kept_targets p i
on_its_way start r p i is k h =
    let b = keeps_brings r p i h k in
    let owed = frames_of (committed_of r.window r.pending) in
    let some : 0 < first_held r = let a = k.held in omega arith in
    is ∙ sym (ap (new_targets p (first_kept i)) b.all
    ∙ new-append p (first_kept i) b.older owed
    ∙ (λ j. old-none p (first_kept i) b.older b.came j ++ new_targets p (b.number j) owed)
    ∙ new-all p (first_held r) (λ c. index-below (first_held r) some p.numbers k.new (c - 1)) owed)
