-- Epochs of a guest that runs elsewhere: it took in the first of the frames that were handed out, and made steps behind them.
use Rattle.std.proofs.Common.{◌≡◌, ℕ, ◌+◌, List, [], ◌++◌, length, replicate, refl, sym, ap, ◌∙◌, subst, append_assoc, zero, suc, ◌∷◌}
use Rattle.std.proofs.lemmas.List.{map-append}
use Rattle.frame_ports.specs.{Addresses.targets_of, Ports.PortsState}
use Rattle.output_gate.specs.Epochs.{frames_of}
use Rattle.pair_history.specs.{Entries.{Frame, Entry, Ran, Arrive}, HistoryState.{HistoryState, sent_along}, Moves.{Move, Steps}}
use Rattle.pair_history.specs.Moves.{entry_of, entries_of, guest_along, frames_along, left, AllCan, Arrives}
use Rattle.pair_history.specs.laws.Moves.{moved, AllCan-append, AllCan-front, AllCan-back, left-append, sent_along-moves, entries-steps}
use Rattle.pair_history.specs.laws.Moves.{can-steps, left-steps}
use Rattle.pair_record.specs.{Accords.{Accords, sealed_now, left_now}, EpochActs.{epoch_sent, seal_epoch_done, enter_epoch_done}}
use Rattle.pair_record.specs.{EpochActs.{fail_within_done, up_to, behind}, Protocol.{Record, shown_at, landed_after}, Record.IsRecord}
use Rattle.pair_record.specs.{Record.{IsLone, first_held, ports_landed, ports_after_all}, Window.none_pending}
use Rattle.pair_history.specs.Epochs.{behind, guest_epoch}
use Rattle.pair_record.specs.laws.{Accords.sealed_state, Numbers.first_lone, Epochs.{seal_accords, landed_accords}, Windows.within}
use Rattle.failover.specs.declared.mode.Mode.TheVariants as modes

-- MOVES up to so many arrivals, and those behind

pub record Parts (n : ℕ) (ms : List Move) : Type 0 where
  pub came : List Move
  pub held : List Move
  pub whole : ms ≡ came ++ held
  pub first : up_to n (entries_of ms) ≡ entries_of came
  pub others : behind n (entries_of ms) ≡ entries_of held

pub parts : (n : ℕ) (ms : List Move) → Parts n ms
parts zero ms = record { came = []; held = ms; whole = refl; first = refl; others = refl }
parts (suc n) [] = record { came = []; held = []; whole = refl; first = refl; others = refl }
parts (suc n) (Steps ∷ ms) =
    let t = parts (suc n) ms in
    record {
      came = Steps ∷ t.came;
      held = t.held;
      whole = ap (λ x. Steps ∷ x) t.whole;
      first = ap (λ x. Ran ∷ x) t.first;
      others = t.others;
    }
parts (suc n) (Arrives k f ∷ ms) =
    let t = parts n ms in
    record {
      came = Arrives k f ∷ t.came;
      held = t.held;
      whole = ap (λ x. Arrives k f ∷ x) t.whole;
      first = ap (λ x. Arrive k ∷ x) t.first;
      others = t.others;
    }

-- THE EPOCH that such a guest ends

module _ (start : HistoryState) (r : Record) (p : PortsState) (h : Accords start r p) (arrivals steps : ℕ) where
  abbrev s : HistoryState
  s = shown_at start r

  abbrev sealed : List Move
  sealed = sealed_now start r p h

  abbrev part : Parts arrivals h.journal.running_moves
  part = parts arrivals h.journal.running_moves

  abbrev epoch : List Move
  epoch = part.came ++ replicate steps Steps

  pub epoch_are : guest_epoch arrivals steps r.journal.running ≡ entries_of epoch
  epoch_are =
      ap (λ (es : List Entry). guest_epoch arrivals steps es) h.journal.running_are
      ∙ (λ i. part.first i ++ entries-steps steps i) ∙ sym (map-append entry_of part.came (replicate steps Steps))

  pub held_are : behind arrivals r.journal.running ≡ entries_of part.held
  held_are = ap (behind arrivals) h.journal.running_are ∙ part.others

  -- what waits behind the arrivals waits behind the steps too
  here : left s.waiting (sealed ++ epoch) ≡ left s.waiting (sealed ++ part.came)
  here =
      left-append s.waiting sealed epoch ∙ left-append (left s.waiting sealed) part.came (replicate steps Steps)
      ∙ left-steps steps (left (left s.waiting sealed) part.came) ∙ sym (left-append s.waiting sealed part.came)

  came_first : sealed ++ h.journal.running_moves ≡ (sealed ++ part.came) ++ part.held
  came_first = ap (λ t. sealed ++ t) part.whole ∙ sym (append_assoc sealed part.came part.held)

  grouped : (sealed ++ epoch) ++ part.held ≡ sealed ++ (epoch ++ part.held)
  grouped = append_assoc sealed epoch part.held

  pub same : left s.waiting (sealed ++ (epoch ++ part.held)) ≡ left_now start r p h
  same =
      ap (left s.waiting) (sym grouped) ∙ left-append s.waiting (sealed ++ epoch) part.held
      ∙ ap (λ ws. left ws part.held) here ∙ sym (left-append s.waiting (sealed ++ part.came) part.held)
      ∙ ap (left s.waiting) (sym came_first)

  pub can : AllCan s.waiting (sealed ++ (epoch ++ part.held))
  can =
      let ran = replicate steps Steps in
      let all : AllCan s.waiting ((sealed ++ part.came) ++ part.held) = subst (AllCan s.waiting) came_first h.journal.can in
      let front = AllCan-front s.waiting (sealed ++ part.came) part.held all in
      let back = AllCan-back s.waiting (sealed ++ part.came) part.held all in
      let ends = AllCan-append s.waiting (sealed ++ part.came) ran front (can-steps steps (left s.waiting (sealed ++ part.came))) in
      subst (AllCan s.waiting) grouped
      (AllCan-append s.waiting (sealed ++ epoch) part.held (subst (AllCan s.waiting) (append_assoc sealed part.came ran) ends)
      (subst (λ ws. AllCan ws part.held) (sym here) back))

  module _ (frames : List Frame) (sent : frames ≡ epoch_sent start r arrivals steps) where
    pub along : frames ≡ frames_along (guest_along s.guest sealed) epoch
    along =
        let first : AllCan (left s.waiting sealed) epoch =
        AllCan-front (left s.waiting sealed) epoch part.held (AllCan-back s.waiting sealed (epoch ++ part.held) can) in
        sent ∙ (λ i. sent_along (sealed_state start r p h i) (epoch_are i)) ∙ sent_along-moves (moved s sealed) epoch first

    -- the epoch is sealed
    abbrev pub seal_epoch_accords : IsRecord r → Accords start (seal_epoch_done arrivals steps frames r).1 p
    seal_epoch_accords k =
        seal_accords start r p h epoch part.held (guest_epoch arrivals steps r.journal.running) (behind arrivals r.journal.running)
        epoch_are held_are can same frames along (within r.window r.pending k.window)

    -- it enters the history, and what was sent along it lands
    pub enter_epoch_accords : IsLone r → Accords start (enter_epoch_done arrivals steps p.boxes frames r)
        (ports_landed p r.next_frame frames)
    enter_epoch_accords k =
        let n = length p.boxes in
        let first : first_held r ≡ r.next_frame = first_lone r k.1 in
        let es = guest_epoch arrivals steps r.journal.running in
        let rest = behind arrivals r.journal.running in
        let landed = landed_accords start r p h epoch part.held es rest epoch_are held_are can same frames along r.mode r.window in
        subst (λ (x : Record × PortsState). Accords start x.0 x.1)
        (λ i. (
          record r {
            journal = landed_after es rest p.boxes (targets_of n (frames_of (k.1 i) ++ frames)) r.journal;
            pending = sym k.1 i;
            next_frame = r.next_frame + length frames;
          },
          ports_landed p (first i) (frames_of (k.1 i) ++ frames),
        ))
        landed

-- THE BACKUP FAILS while the guest is in an epoch: what was handed out runs on
abbrev pub fail_within_accords : (start : HistoryState) (r : Record) (p : PortsState) → Accords start r p
    → Accords start (fail_within_done p.boxes r).1 (ports_after_all p [] r)
fail_within_accords start r p h =
    landed_accords start r p h [] h.journal.running_moves [] r.journal.running refl h.journal.running_are h.journal.can refl [] refl
    modes.Alone (none_pending r.window.to_cut)
