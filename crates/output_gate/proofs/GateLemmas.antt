-- The fields of a gate, seen as the epochs that it holds and the next number.
use Rattle.std.proofs.Common.{
  ◌≡◌,
  ℕ,
  ◌+◌,
  ◌*◌,
  ◌<◌,
  ◌≤◌,
  List,
  [],
  ◌∷◌,
  ◌++◌,
  length,
  take,
  drop,
  refl,
  sym,
  ◌∙◌,
  ap,
  subst,
  arith,
  All,
  vec_capacity,
  length-append,
}
use Rattle.std.proofs.Math.ListN.{length-drop, length-take}
use Rattle.std.proofs.lemmas.List.Sums.{sum_by-take-drop, sum_by-append, sum_by-cons}
use Rattle.arrayvec.specs.ArrayVec.{ArrayVec}
use Rattle.frame_ports.specs.Addresses.{IsFrame}
use Rattle.frame_ports.specs.Limits.{number_limit}
use Rattle.output_gate.specs.Epochs.{Epoch, epoch, frames_of, frames_to, after_number}
use Rattle.output_gate.specs.Gate.{GateState, IsGate}
use Rattle.output_gate.specs.internal.Fields.{total, epochs_of, epochs_held, gate_state, AreFields}
use Rattle.output_gate.specs.declared.gate.Gate.TheInside.{Inside}
use Rattle.output_gate.specs.declared.marks.Mark.{Mark}
use Rattle.output_gate.specs.Limits.{max_epochs, max_frames}
use Rattle.output_gate.proofs.EpochLaws.{frames_of-frames}
use Rattle.output_gate.proofs.EpochLemmas.{
  epochs_of-push,
  frames_of-epochs,
  length-epochs_of,
  drop-epochs_of,
  reach,
  frames_to-reach,
  after_number-reach,
  gate-push,
  gate-drop,
  length-frames_of,
}

module _ (g : Inside) (s : GateState) (seen : gate_state g ≡ s) (ok : AreFields g) where
  pub epochs_seen : epochs_held g ≡ s.epochs
  epochs_seen = ap (λ (t : GateState). t.epochs) seen

  pub next_seen : g.next ≡ s.next
  next_seen = ap (λ (t : GateState). t.next) seen

  -- the row is all frames of the epochs, and each of them is a frame
  pub row_is : g.frames.items ≡ frames_of s.epochs
  row_is = sym (frames_of-epochs g.marks.items g.frames.items ok.whole) ∙ ap frames_of epochs_seen

  pub row_frames : All IsFrame g.frames.items
  row_frames = subst (λ l. All IsFrame l) (frames_of-epochs g.marks.items g.frames.items ok.whole)
      (frames_of-frames (epochs_held g) ok.gate.epochs)

  -- 256 frames at most for each of the epochs
  pub row_few : length g.frames.items ≤ length s.epochs * 256
  row_few =
      let le : length (frames_of (epochs_held g)) ≤ length (epochs_held g) * 256 = length-frames_of (epochs_held g) ok.gate.epochs in
      let row = ap (λ (l : List (ArrayVec ℕ)). length l) (frames_of-epochs g.marks.items g.frames.items ok.whole) in
      omega (arith, row, ap (λ (l : List Epoch). length l) epochs_seen)

  -- the first number is at least 1, and the numbers of the row are below the limit
  pub row_numbers : (length g.frames.items < g.next) × (g.next ≤ number_limit)
  row_numbers =
      let row = ap (λ (l : List (ArrayVec ℕ)). length l) (frames_of-epochs g.marks.items g.frames.items ok.whole) in
      (omega (arith, row, ok.gate.numbers), ok.gate.limit)

  pub marks_few : length g.marks.items ≡ length s.epochs
  marks_few = sym (length-epochs_of g.marks.items g.frames.items) ∙ ap (λ (l : List Epoch). length l) epochs_seen

  -- the epochs up to a number, where the code has found how many they are and how many frames they have
  module _ (n k count : ℕ) (ms ns : List Mark) (ms_is : ms ≡ g.marks.items) (ns_is : ns ≡ g.marks.items) (k_is : k ≡ reach n ms)
      (count_is : count ≡ total (take k ns)) where
    k_here : k ≡ reach n g.marks.items
    k_here = k_is ∙ ap (reach n) ms_is

    count_here : count ≡ total (take k g.marks.items)
    count_here = count_is ∙ ap (λ (l : List Mark). total (take k l)) ns_is

    pub part_is : (fs : List (ArrayVec ℕ)) → fs ≡ g.frames.items → take count fs ≡ frames_to n s.epochs
    part_is fs fs_is =
        ap (take count) fs_is
        ∙ ap (λ j. take j g.frames.items) (count_here ∙ ap (λ j. total (take j g.marks.items)) k_here)
        ∙ sym (frames_to-reach n g.marks.items g.frames.items ok.gate.rising)
        ∙ ap (frames_to n) epochs_seen

    -- and how many frames they have
    pub part_count : count ≡ length (frames_to n s.epochs)
    part_count =
        let parts : total (take k g.marks.items) + total (drop k g.marks.items) ≡ total g.marks.items =
        sum_by-take-drop (λ (m : Mark). m.count) g.marks.items k in
        let seen : length (take count g.frames.items) ≡ length (frames_to n s.epochs) =
        ap (λ (l : List (ArrayVec ℕ)). length l) (part_is g.frames.items refl) in
        omega (arith, parts, count_here, ok.whole, length-take count g.frames.items, seen)

    rest_seen : epochs_of (drop k g.marks.items) (drop count g.frames.items) ≡ drop k (epochs_held g)
    rest_seen = ap (λ j. epochs_of (drop k g.marks.items) (drop j g.frames.items)) count_here
        ∙ sym (drop-epochs_of k g.marks.items g.frames.items)

    -- what is left of the gate without them
    pub rest_is : (left : List Mark) (fs : List (ArrayVec ℕ)) → left ≡ drop k g.marks.items → fs ≡ drop count g.frames.items →
        epochs_of left fs ≡ after_number n s.epochs
    rest_is left fs marks frames =
        ap (λ (l : List Mark). epochs_of l fs) marks
        ∙ ap (epochs_of (drop k g.marks.items)) frames
        ∙ rest_seen
        ∙ ap (λ j. drop j (epochs_held g)) k_here
        ∙ sym (after_number-reach n g.marks.items g.frames.items ok.gate.rising)
        ∙ ap (after_number n) epochs_seen

    pub rest_state : (left : List Mark) (fs : List (ArrayVec ℕ)) → left ≡ drop k g.marks.items → fs ≡ drop count g.frames.items →
        ◌≡◌ {A = GateState} (record { next = g.next; epochs = epochs_of left fs }) (record s { epochs = after_number n s.epochs })
    rest_state left fs marks frames =
        ap (λ (m : ℕ). let t : GateState = record { next = m; epochs = epochs_of left fs } in t) next_seen
        ∙ ap (λ (l : List Epoch). let t : GateState = record s { epochs = l } in t) (rest_is left fs marks frames)

    pub rest_fields : (h : Inside) → h.marks.items ≡ drop k g.marks.items → h.frames.items ≡ drop count g.frames.items →
        h.next ≡ g.next → vec_capacity h.marks ≡ vec_capacity g.marks → vec_capacity h.frames ≡ vec_capacity g.frames → AreFields h
    rest_fields h marks frames next marks_room frames_room =
        let held : epochs_held h ≡ drop k (epochs_held g) = ap (λ (l : List Mark). epochs_of l h.frames.items) marks
        ∙ ap (epochs_of (drop k g.marks.items)) frames ∙ rest_seen in
        let parts : total (take k g.marks.items) + total (drop k g.marks.items) ≡ total g.marks.items =
        sum_by-take-drop (λ (m : Mark). m.count) g.marks.items k in
        record {
          gate = subst IsGate
              (ap (λ (l : List Epoch). let t : GateState = record { next = g.next; epochs = l } in t) (sym held)
              ∙ ap (λ (m : ℕ). let t : GateState = record { next = m; epochs = epochs_held h } in t) (sym next))
              (gate-drop k (gate_state g) ok.gate);
          whole = ap total marks ∙ omega (
            arith,
            parts,
            count_here,
            ok.whole,
            ap (λ (l : List (ArrayVec ℕ)). length l) frames,
            length-drop count g.frames.items,
          );
          marks = omega (arith, ok.marks);
          frames = omega (arith, ok.frames);
        }

  -- one epoch more
  module _ (h : Inside) (m : Mark) (fs : List (ArrayVec ℕ)) (frames : h.frames.items ≡ g.frames.items ++ fs)
      (marks : h.marks.items ≡ g.marks.items ++ m ∷ []) (count : m.count ≡ length fs) (next : h.next ≡ g.next + length fs) where
    pub more_is : gate_state h ≡ record { next = s.next + length fs; epochs = s.epochs ++ epoch m.number fs ∷ [] }
    more_is =
        let held : epochs_held h ≡ s.epochs ++ epoch m.number fs ∷ [] =
        ap (λ (l : List Mark). epochs_of l h.frames.items) marks
        ∙ ap (epochs_of (g.marks.items ++ m ∷ [])) frames
        ∙ epochs_of-push g.marks.items m g.frames.items fs ok.whole count
        ∙ ap (λ (l : List Epoch). l ++ epoch m.number fs ∷ []) epochs_seen in
        ap (λ (l : List Epoch). let t : GateState = record { next = h.next; epochs = l } in t) held
        ∙ ap (λ (n : ℕ). let t : GateState = record { next = n; epochs = s.epochs ++ epoch m.number fs ∷ [] } in t)
        (next ∙ ap (λ n. n + length fs) next_seen)

    pub more_fields : length s.epochs < max_epochs → All (λ e. e.number < m.number) s.epochs → length fs ≤ max_frames → All IsFrame fs →
        s.next + length fs ≤ number_limit → vec_capacity g.marks ≤ vec_capacity h.marks → vec_capacity g.frames ≤ vec_capacity h.frames →
        AreFields h
    more_fields room above few all limit marks_room frames_room =
        let gate : IsGate s = subst IsGate seen ok.gate in
        let more : total (g.marks.items ++ m ∷ []) ≡ total g.marks.items + total (m ∷ []) =
        sum_by-append (λ (x : Mark). x.count) g.marks.items (m ∷ []) in
        let one : total (m ∷ []) ≡ m.count + 0 = sum_by-cons (λ (x : Mark). x.count) m [] in
        record {
          gate = subst IsGate (sym more_is) (gate-push s (epoch m.number fs) gate room above (few, all) limit);
          whole = ap total marks ∙ omega (
            arith,
            more,
            one,
            count,
            ok.whole,
            ap (λ (l : List (ArrayVec ℕ)). length l) frames,
            length-append g.frames.items fs,
          );
          marks = omega (arith, ok.marks);
          frames = omega (arith, ok.frames);
        }
