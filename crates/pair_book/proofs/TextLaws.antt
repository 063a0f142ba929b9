-- What the pending texts keep along the keeper's steps.
use Rattle.std.proofs.Common.{◌≡◌, ℕ, zero, suc, ◌+◌, ◌-◌, ◌<◌, ◌≤◌, List, [], ◌∷◌, ◌++◌, length, map, drop, refl, sym, ap, ◌∙◌, subst}
use Rattle.std.proofs.{Common.{append_assoc, arith, Bool, true, false, cond}, lemmas.List.{map-append, length-append, nil_from_length}}
use Rattle.std.proofs.lemmas.List.{drop-drop, drop-append-le, drop-map, drop_all}
use Rattle.std.specs.Prelude.{nat_le}
use Rattle.frame_ports.specs.Ports.{PortsState}
use Rattle.pair_history.specs.Entries.{Entry}
use Rattle.pair_history.specs.HistoryState.{HistoryState}
use Rattle.pair_record.specs.declared.window.Window.{Window}
use Rattle.pair_record.specs.Protocol.{Record}
use Rattle.pair_record.specs.Record.{IsRecord}
use Rattle.pair_record.specs.Window.{with_cut, with_commit, with_acknowledged, first_after, committed_count}
use Rattle.std.proofs.lemmas.Bool.{lt-leb, leb-true, leb-false}
use Rattle.growing_history.specs.Steps.{What, Added, Sealed, Committed, Step, step}
use Rattle.growing_history.specs.LogState.{LogState, Epoch, state_at, after_step}
use Rattle.growing_history.specs.laws.Logs.{state-snoc}
use Rattle.pair_book.specs.Packets.{PacketState}
use Rattle.pair_book.specs.Texts.{WasSealed, ArePending, above}
use Rattle.pair_book.specs.internal.{Texts.{HasTexts, texts_of, sealed_texts}, Tie.IsTied}

-- WHAT WAS SEALED, was it in a longer list too

pub longer : (xs more : List Step) (p : PacketState) → WasSealed xs p → WasSealed (xs ++ more) p
longer xs more p w = record {
  before = w.before;
  later = w.later ++ more;
  by = w.by;
  epoch = w.epoch;
  is =
      ap (λ (l : List Step). l ++ more) w.is
      ∙ append_assoc w.before (step w.by (Sealed p.generation p.number w.epoch p.text) ∷ w.later) more;
}

pub pending-longer : (xs more : List Step) (g n : ℕ) (ps : List PacketState) → ArePending xs g n ps → ArePending (xs ++ more) g n ps
pending-longer xs more g n [] h = tt
pending-longer xs more g n (p ∷ ps) h = (h.0, h.1, longer xs more p h.2, pending-longer xs more g (n + 1) ps h.3)

pub pending-push : (xs : List Step) (g n : ℕ) (ps : List PacketState) (p : PacketState) → ArePending xs g n ps → p.generation ≡ g
    → p.number ≡ n + length ps → WasSealed xs p → ArePending xs g n (ps ++ p ∷ [])
pending-push xs g n [] p h generation number sealed = (generation, omega (arith, number), sealed, tt)
pending-push xs g n (q ∷ ps) p h generation number sealed =
    (h.0, h.1, h.2, pending-push xs g (n + 1) ps p h.3 generation (omega (arith, number)) sealed)

-- WHAT STAYS of packets numbered from a on, once those up to number n have left

pub record Stays (xs : List Step) (g n a : ℕ) (ps : List PacketState) : Type 0 where
  pub pending : ArePending xs g (first_after n a) (above n ps)
  pub count : first_after n a + length (above n ps) ≡ a + length ps
  pub rest : drop (first_after n a - a) ps ≡ above n ps

stays-none : (xs : List Step) (g n a : ℕ) (ps : List PacketState) → n < a → ArePending xs g a ps → above n ps ≡ ps → Stays xs g n a ps
stays-none xs g n a ps l h same =
    let first : first_after n a ≡ a = ap (λ (t : Bool). cond t (n + 1) a) (lt-leb a n l) in
    record {
      pending = subst (λ (x : ℕ × List PacketState). ArePending xs g x.0 x.1) (λ i. (sym first i, sym same i)) h;
      count = λ i. first i + length (same i);
      rest = ap (λ (k : ℕ). drop k ps) {x = first_after n a - a} {y = 0} (omega (arith, first)) ∙ sym same;
    }

-- the number behind n is the first where the first after the first is looked for, too
next-first : (n a : ℕ) → a ≤ n → first_after n (a + 1) ≡ n + 1
next-first n a from = by_test (nat_le (a + 1) n) refl
  where
    by_test : (t : Bool) → nat_le (a + 1) n ≡ t → first_after n (a + 1) ≡ n + 1
    by_test true e = ap (λ (t : Bool). cond t (n + 1) (a + 1)) e
    by_test false e =
        let l : n < a + 1 = leb-false (a + 1) n e in
        ap (λ (t : Bool). cond t (n + 1) (a + 1)) e ∙ omega (arith, l, from)

stays-more : (xs : List Step) (g n a : ℕ) (p : PacketState) (ps : List PacketState) → ArePending xs g a (p ∷ ps)
    → (a ≤ n → Stays xs g n (a + 1) ps) → (t : Bool) → nat_le a n ≡ t → Stays xs g n a (p ∷ ps)
stays-more xs g n a p ps h later false e =
    let off : nat_le p.number n ≡ false = ap (λ (k : ℕ). nat_le k n) h.1 ∙ e in
    stays-none xs g n a (p ∷ ps) (leb-false a n e) h (ap (λ (t : Bool). cond t (above n ps) (p ∷ ps)) off)
stays-more xs g n a p ps h later true e =
    let from : a ≤ n = leb-true a n e in
    let on : nat_le p.number n ≡ true = ap (λ (k : ℕ). nat_le k n) h.1 ∙ e in
    let gone : above n (p ∷ ps) ≡ above n ps = ap (λ (t : Bool). cond t (above n ps) (p ∷ ps)) on in
    let here : first_after n a ≡ n + 1 = ap (λ (t : Bool). cond t (n + 1) a) e in
    let there : first_after n (a + 1) ≡ n + 1 = next-first n a from in
    let first : first_after n (a + 1) ≡ first_after n a = there ∙ sym here in
    let rest = later from in
    record {
      pending = subst (λ (x : ℕ × List PacketState). ArePending xs g x.0 x.1) (λ i. (first i, sym gone i)) rest.pending;
      count = (λ i. sym first i + length (gone i)) ∙ rest.count ∙ omega arith;
      rest =
          ap (λ (k : ℕ). drop k (p ∷ ps)) {x = first_after n a - a} {y = suc (first_after n (a + 1) - (a + 1))}
          (omega (arith, here, there, from))
          ∙ rest.rest
          ∙ sym gone;
    }

pub stays : (xs : List Step) (g n a : ℕ) (ps : List PacketState) → ArePending xs g a ps → n < a + length ps → Stays xs g n a ps
stays xs g n a [] h l = stays-none xs g n a [] (omega (arith, l)) tt refl
stays xs g n a (p ∷ ps) h l =
    stays-more xs g n a p ps h (λ from. stays xs g n (a + 1) ps h.3 (omega (arith, l))) (nat_le a n) refl

-- epochs whose entries are none are none
no-epochs : (es : List Epoch) → [] ≡ map (λ (e : Epoch). e.entries) es → es ≡ []
no-epochs [] e = refl
no-epochs (x ∷ es) e = absurd (cc)

-- WHERE NOTHING IS PENDING there are none
pub no-texts : {start : HistoryState} {steps : List Step} {r : Record} {p : PortsState} {ps : List PacketState} → IsTied start steps r p
    → r.journal.sealed ≡ [] → r.window.to_acknowledge ≡ r.window.to_cut → ps ≡ [] → HasTexts start steps r ps
no-texts {start} {steps} {r} t none window empty = subst (λ (l : List PacketState). HasTexts start steps r l) (sym empty) (record {
  pending = tt;
  count = omega (arith, window);
  sealed =
      ap texts_of (drop_all (committed_count r.window) [] (omega arith))
      ∙ sym (ap sealed_texts (no-epochs (state_at start steps).sealed (sym none ∙ t.sealed)));
})

module _ (start : HistoryState) (steps : List Step) (r now : Record) (ps : List PacketState) (h : HasTexts start steps r ps) where
  abbrev s : LogState
  s = state_at start steps

  -- the record has changed, but neither its generation nor its window
  pub texts-same : now.generation ≡ r.generation → now.window ≡ r.window → HasTexts start steps now ps
  texts-same generation window = record {
    pending =
        subst (λ (x : ℕ × Window). ArePending steps x.0 x.1.to_acknowledge ps) (λ i. (sym generation i, sym window i)) h.pending;
    count = subst (λ (w : Window). w.to_acknowledge + length ps ≡ w.to_cut) (sym window) h.count;
    sealed = ap (λ (w : Window). texts_of (drop (committed_count w) ps)) window ∙ h.sealed;
  }

  -- AN ACKNOWLEDGEMENT: those up to its number leave
  pub texts-acked : IsRecord r → (n : ℕ) → n < r.window.to_commit → now.generation ≡ r.generation
      → now.window ≡ with_acknowledged n r.window → HasTexts start steps now (above n ps)
  texts-acked k n below generation window =
      let a = r.window.to_acknowledge in
      let c = r.window.to_commit in
      let f = first_after n a in
      let stay = stays steps r.generation n a ps h.pending (omega (arith, below, k.window.cut, h.count)) in
      let least : a ≤ f = least_first (nat_le a n) refl in
      let most : f ≤ c = most_first (nat_le a n) refl in
      let acknowledge : now.window.to_acknowledge ≡ f = ap (λ (w : Window). w.to_acknowledge) window in
      let commit : now.window.to_commit ≡ c = ap (λ (w : Window). w.to_commit) window in
      let cut : now.window.to_cut ≡ r.window.to_cut = ap (λ (w : Window). w.to_cut) window in
      record {
        pending =
            subst (λ (x : ℕ × ℕ). ArePending steps x.0 x.1 (above n ps)) (λ i. (sym generation i, sym acknowledge i)) stay.pending;
        count = omega (arith, acknowledge, cut, stay.count, h.count);
        sealed =
            ap texts_of
            ((λ i. drop (commit i - acknowledge i) (sym stay.rest i))
            ∙ drop-drop (c - f) (f - a) ps
            ∙ ap (λ (m : ℕ). drop m ps) {x = (f - a) + (c - f)} {y = c - a} (omega (arith, least, most)))
            ∙ h.sealed;
      }
    where
      least_first : (t : Bool) → nat_le r.window.to_acknowledge n ≡ t
          → r.window.to_acknowledge ≤ first_after n r.window.to_acknowledge
      least_first true e =
          let is : first_after n r.window.to_acknowledge ≡ n + 1 = ap (λ (t : Bool). cond t (n + 1) r.window.to_acknowledge) e in
          omega (arith, is, leb-true r.window.to_acknowledge n e)
      least_first false e =
          let is : first_after n r.window.to_acknowledge ≡ r.window.to_acknowledge =
          ap (λ (t : Bool). cond t (n + 1) r.window.to_acknowledge) e in
          omega (arith, is)

      most_first : (t : Bool) → nat_le r.window.to_acknowledge n ≡ t → first_after n r.window.to_acknowledge ≤ r.window.to_commit
      most_first true e =
          let is : first_after n r.window.to_acknowledge ≡ n + 1 = ap (λ (t : Bool). cond t (n + 1) r.window.to_acknowledge) e in
          omega (arith, is, below)
      most_first false e =
          let is : first_after n r.window.to_acknowledge ≡ r.window.to_acknowledge =
          ap (λ (t : Bool). cond t (n + 1) r.window.to_acknowledge) e in
          omega (arith, is, k.window.committed)

  -- A STEP that seals nothing, and commits nothing
  pub texts-longer : (by : ℕ) (what : What) → (after_step s what).sealed ≡ s.sealed → HasTexts start (steps ++ step by what ∷ []) r ps
  texts-longer by what same = record {
    pending = pending-longer steps (step by what ∷ []) r.generation r.window.to_acknowledge ps h.pending;
    count = h.count;
    sealed =
        h.sealed
        ∙ ap sealed_texts (sym same)
        ∙ ap (λ (u : LogState). sealed_texts u.sealed) (sym (state-snoc start steps (step by what)));
  }

  -- A COMMIT: the text of the oldest sealed epoch is that of a committed one now
  pub texts-committed : IsRecord r → (by g n : ℕ) (text : List ℕ) → now.generation ≡ r.generation → now.window ≡ with_commit r.window
      → HasTexts start (steps ++ step by (Committed g n text) ∷ []) now ps
  texts-committed k by g n text generation window =
      let a = r.window.to_acknowledge in
      let c = r.window.to_commit in
      let more : committed_count now.window ≡ (c - a) + 1 =
      ap committed_count window ∙ omega (arith, k.window.committed) in
      record {
        pending =
            subst (λ (x : ℕ × Window). ArePending (steps ++ step by (Committed g n text) ∷ []) x.0 x.1.to_acknowledge ps)
            (λ i. (sym generation i, sym window i))
            (pending-longer steps (step by (Committed g n text) ∷ []) r.generation a ps h.pending);
        count = subst (λ (w : Window). w.to_acknowledge + length ps ≡ w.to_cut) (sym window) h.count;
        sealed =
            ap (λ (m : ℕ). texts_of (drop m ps)) more
            ∙ sym (ap texts_of (drop-drop 1 (c - a) ps))
            ∙ sym (drop-map (λ (p : PacketState). p.text) 1 (drop (c - a) ps))
            ∙ ap (drop 1) h.sealed
            ∙ drop-map (λ (e : Epoch). e.text) 1 s.sealed
            ∙ ap (λ (u : LogState). sealed_texts u.sealed) (sym (state-snoc start steps (step by (Committed g n text))));
      }

  -- AN EPOCH IS SEALED, and its text is pending behind the others: of a full checkpoint it is the only one
  pub texts-sealed : IsRecord r → (by : ℕ) (epoch : List Entry) (p : PacketState) → p.generation ≡ r.generation
      → p.number ≡ r.window.to_cut → now.generation ≡ r.generation → now.window ≡ with_cut r.window
      → HasTexts start (steps ++ step by (Sealed p.generation p.number epoch p.text) ∷ []) now (ps ++ p ∷ [])
  texts-sealed k by epoch p generation number same window =
      let a = r.window.to_acknowledge in
      let c = r.window.to_commit in
      let what : What = Sealed p.generation p.number epoch p.text in
      let all : List Step = steps ++ step by what ∷ [] in
      let here : WasSealed all p = record { before = steps; later = []; by = by; epoch = epoch; is = refl } in
      record {
        pending =
            subst (λ (x : ℕ × Window). ArePending all x.0 x.1.to_acknowledge (ps ++ p ∷ [])) (λ i. (sym same i, sym window i))
            (pending-push all r.generation a ps p (pending-longer steps (step by what ∷ []) r.generation a ps h.pending) generation
            (number ∙ sym h.count) here);
        count =
            subst (λ (w : Window). w.to_acknowledge + length (ps ++ p ∷ []) ≡ w.to_cut) (sym window)
            (let long = length-append ps (p ∷ []) in omega (arith, long, h.count));
        sealed =
            ap (λ (w : Window). texts_of (drop (committed_count w) (ps ++ p ∷ []))) window
            ∙ ap texts_of (drop-append-le (c - a) ps (p ∷ []) (omega (arith, h.count, k.window.cut)))
            ∙ map-append (λ (q : PacketState). q.text) (drop (c - a) ps) (p ∷ [])
            ∙ sym (by_number p.number refl)
            ∙ ap (λ (u : LogState). sealed_texts u.sealed) (sym (state-snoc start steps (step by what)));
      }
    where
      by_number : (n : ℕ) → p.number ≡ n
          → sealed_texts (after_step s (Sealed p.generation n epoch p.text)).sealed
          ≡ texts_of (drop (r.window.to_commit - r.window.to_acknowledge) ps) ++ p.text ∷ []
      by_number zero e =
          let none : ps ≡ [] = nil_from_length ps (omega (arith, e, number, h.count)) in
          ap (λ (l : List PacketState). texts_of l ++ p.text ∷ [])
          (sym (drop_all (r.window.to_commit - r.window.to_acknowledge) [] (omega arith))
          ∙ ap (drop (r.window.to_commit - r.window.to_acknowledge)) (sym none))
      by_number (suc n) e =
          map-append (λ (x : Epoch). x.text) s.sealed (record { number = suc n; entries = epoch; text = p.text } ∷ [])
          ∙ ap (λ (l : List (List ℕ)). l ++ p.text ∷ []) (sym h.sealed)

-- A STEP that seals nothing and commits nothing, of a record whose generation and window stay
pub texts-after : {start : HistoryState} {steps steps' : List Step} {r now : Record} {ps : List PacketState} → HasTexts start steps r ps
    → (by : ℕ) (what : What) → (after_step (state_at start steps) what).sealed ≡ (state_at start steps).sealed
    → steps' ≡ steps ++ step by what ∷ [] → now.generation ≡ r.generation → now.window ≡ r.window → HasTexts start steps' now ps
texts-after {start} {steps} {r} {now} {ps} h by what same is generation window =
    subst (λ (l : List Step). HasTexts start l now ps) (sym is)
    (texts-longer start steps now now ps (texts-same start steps r now ps h generation window) by what same)

pub texts-added : {start : HistoryState} {steps steps' : List Step} {r now : Record} {ps : List PacketState} → HasTexts start steps r ps
    → (by : ℕ) (es : List Entry) → steps' ≡ steps ++ step by (Added es) ∷ [] → now.generation ≡ r.generation → now.window ≡ r.window
    → HasTexts start steps' now ps
texts-added h by es = texts-after h by (Added es) refl

-- what an acknowledgement leaves
pub texts-left : {start : HistoryState} {steps : List Step} {r now : Record} {ps left : List PacketState} → HasTexts start steps r ps
    → IsRecord r → (n : ℕ) → n < r.window.to_commit → now.generation ≡ r.generation → now.window ≡ with_acknowledged n r.window
    → left ≡ above n ps → HasTexts start steps now left
texts-left {start} {steps} {r} {now} {ps} h k n below generation window is =
    subst (λ (l : List PacketState). HasTexts start steps now l) (sym is)
    (texts-acked start steps r now ps h k n below generation window)

-- WHAT CALLS of a commit and of a submit leave, where the steps have grown by that one

pub texts-once-committed : {start : HistoryState} {steps steps' : List Step} {r now : Record} {ps : List PacketState}
    → HasTexts start steps r ps → IsRecord r → (by g n : ℕ) (text : List ℕ) → steps' ≡ steps ++ step by (Committed g n text) ∷ []
    → now.generation ≡ r.generation → now.window ≡ with_commit r.window → HasTexts start steps' now ps
texts-once-committed {start} {steps} {r} {now} {ps} h k by g n text is generation window =
    subst (λ (l : List Step). HasTexts start l now ps) (sym is)
    (texts-committed start steps r now ps h k by g n text generation window)

pub texts-once-sealed : {start : HistoryState} {steps steps' : List Step} {r now : Record} {ps left : List PacketState}
    → HasTexts start steps r ps → IsRecord r → (by : ℕ) (epoch : List Entry) (p : PacketState) → p.generation ≡ r.generation
    → p.number ≡ r.window.to_cut → steps' ≡ steps ++ step by (Sealed p.generation p.number epoch p.text) ∷ []
    → now.generation ≡ r.generation → now.window ≡ with_cut r.window → left ≡ ps ++ p ∷ [] → HasTexts start steps' now left
texts-once-sealed {start} {steps} {r} {now} {ps} h k by epoch p generation number is same window pushed =
    subst (λ (x : List Step × List PacketState). HasTexts start x.0 now x.1) (λ i. (sym is i, sym pushed i))
    (texts-sealed start steps r now ps h k by epoch p generation number same window)

-- there is room for one more text where fewer than four are pending
pub as-many : {start : HistoryState} {steps : List Step} {r : Record} {ps : List PacketState} → HasTexts start steps r ps → IsRecord r
    → length ps ≡ length r.pending
as-many h k = omega (arith, h.count, k.window.count)
