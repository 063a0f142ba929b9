-- Where a node goes on alone: all that is kept goes to the history, and all that is on its way lands. So does what each of its steps sends.
use Rattle.std.proofs.Common.{◌+◌, ◌≡◌, ℕ, List, [], ◌∷◌, ◌++◌, length, refl, sym, ap, ◌∙◌, subst}
use Rattle.std.proofs.{Common.{true}, lemmas.List.append-nil}
use Rattle.frame_ports.specs.{Addresses.targets_of, Ports.PortsState}
use Rattle.failover.specs.declared.mode.Mode.{Mode}
use Rattle.output_gate.specs.Epochs.{Epoch, frames_of}
use Rattle.guest_rules.specs.Step.{sent}
use Rattle.pair_history.specs.{Entries.{Frame, Entry, Ran, Arrive}, HistoryState.{HistoryState, after, at}}
use Rattle.pair_history.specs.Landings.{landings, DropsAtFull, BoxesFit}
use Rattle.pair_history.specs.Moves.{Move, Steps, Arrives, entries_of, guest_along, frames_along, left, AllCan}
use Rattle.pair_history.specs.laws.Histories.{at-append}
use Rattle.pair_history.specs.laws.Landings.{AllClients-targets, landings-land, AllLand}
use Rattle.pair_record.specs.{declared.window.Window.Window, Accords.Accords}
use Rattle.pair_history.specs.Journal.{joined, kept_entries, all_entries}
use Rattle.pair_record.specs.Protocol.{Record, shown_at, live_at, all_held, outbox_of, step_entries, cut_done, landed_after}
use Rattle.pair_record.specs.Record.{IsRecord, IsLone, ports_after_all}
use Rattle.pair_record.specs.Window.{committed_of, committed_count}
use Rattle.pair_record.specs.Accords.{kept_now, left_now, sealed_now}
use Rattle.pair_record.specs.laws.{Accords.{sent_is, kept_is}, Windows.within}
use Rattle.std.proofs.Math.Seq.{take-nil}
use Rattle.pair_record.specs.laws.Epochs as land

-- ALL OF THE RUNNING EPOCH, and no step more

module _ (start : HistoryState) (r : Record) (p : PortsState) (h : Accords start r p) (outbox : List Frame) where
  abbrev ran : List Move
  ran = h.journal.running_moves

  pub can_ran : AllCan (shown_at start r).waiting (sealed_now start r p h ++ (ran ++ []))
  can_ran =
      subst (AllCan (shown_at start r).waiting) (ap (λ ms. sealed_now start r p h ++ ms) (sym (append-nil ran))) h.journal.can

  pub left_ran : left (shown_at start r).waiting (sealed_now start r p h ++ (ran ++ [])) ≡ left_now start r p h
  left_ran = ap (λ ms. left (shown_at start r).waiting (sealed_now start r p h ++ ms)) (append-nil ran)

  -- a cut
  abbrev pub cut_accords : IsRecord r → outbox ≡ frames_along (guest_along (shown_at start r).guest (sealed_now start r p h)) ran
      → Accords start (cut_done outbox r).1 p
  cut_accords k sent =
      land.seal_accords start r p h ran [] r.journal.running [] h.journal.running_are refl can_ran left_ran outbox sent
      (within r.window r.pending k.window)

  -- where a node goes on alone
  module _ (sent : outbox_of start r ≡ outbox) where
    pub sent_so : outbox ≡ frames_along (guest_along (shown_at start r).guest (sealed_now start r p h)) ran
    sent_so = sym sent ∙ sent_is start r p h

    pub all_land : AllLand (live_at start r) (all_held p.boxes outbox r) [] (landings p.boxes (all_held p.boxes outbox r))
    all_land = land.all_land start r p h ran [] r.journal.running [] h.journal.running_are refl can_ran left_ran outbox sent_so

    abbrev pub landed_state : HistoryState
    landed_state = land.landed_state start r p h ran [] r.journal.running [] h.journal.running_are refl can_ran left_ran outbox sent_so

    pub landed_is : at start (all_entries r.journal ++ landings p.boxes (all_held p.boxes outbox r)) ≡ landed_state
    landed_is = land.landed_is start r p h ran [] r.journal.running [] h.journal.running_are refl can_ran left_ran outbox sent_so

    module _ (mode : Mode) (window : Window) where
      abbrev pub all_landed_accords : Accords start (record r {
        mode = mode;
        journal = landed_after r.journal.running [] p.boxes (all_held p.boxes outbox r) r.journal;
        window = window;
        pending = [];
        next_frame = r.next_frame + length outbox;
      }) (ports_after_all p outbox r)
      all_landed_accords =
          land.landed_accords start r p h ran [] r.journal.running [] h.journal.running_are refl can_ran left_ran outbox sent_so mode window

-- WHY FRAMES ARE DROPPED there: at a full box

-- what the guest does drops nothing
DropsAtFull-moves : (s : HistoryState) (ms : List Move) (es : List Entry) → DropsAtFull (at s (entries_of ms)) es
    → DropsAtFull s (entries_of ms ++ es)
DropsAtFull-moves s [] es p = p
DropsAtFull-moves s (Steps ∷ ms) es p = DropsAtFull-moves (after s Ran) ms es p
DropsAtFull-moves s (Arrives n f ∷ ms) es p = DropsAtFull-moves (after s (Arrive n)) ms es p

module _ (start : HistoryState) (r : Record) (p : PortsState) (h : Accords start r p) where
  -- where the backup fails
  pub failure_drops : DropsAtFull (shown_at start r) (kept_entries r.journal
      ++ landings (shown_at start r).boxes (all_held (shown_at start r).boxes (outbox_of start r) r))
  failure_drops =
      let s = shown_at start r in
      let ms = kept_now start r p h in
      let es : List (List Frame) → List Entry = λ b. landings b (all_held b (outbox_of start r) r) in
      let land : DropsAtFull (live_at start r) (es p.boxes) = (all_land start r p h (outbox_of start r) refl).2 in
      let seen : DropsAtFull (live_at start r) (es s.boxes) = rw (← h.clients.boxes) land in
      let lives : live_at start r ≡ at s (entries_of ms) =
      at-append start r.journal.history (kept_entries r.journal) ∙ ap (at s) (kept_is start r p h) in
      rw (kept_is start r p h) (DropsAtFull-moves s ms (es s.boxes) (rw (← lives) seen))

  -- a step of a node that is alone
  pub step_drops : IsLone r → r.journal.running ≡ []
      → DropsAtFull (shown_at start r) (step_entries true (shown_at start r).boxes (sent (live_at start r).guest))
  step_drops k still =
      let s = shown_at start r in
      let n = length s.boxes in
      let kept : all_entries r.journal ≡ r.journal.history =
      (λ i. r.journal.history ++ (joined (k.0 i) ++ still i)) ∙ append-nil r.journal.history in
      let lives : live_at start r ≡ s = ap (at start) kept in
      let none : s.out ≡ [] =
      h.owed ∙ (λ i. targets_of (length p.boxes) (frames_of (committed_of r.window (k.1 i))))
      ∙ ap (λ (es : List Epoch). targets_of (length p.boxes) (frames_of es)) (take-nil (committed_count r.window)) in
      let t = after s Ran in
      let ps = targets_of n (sent s.guest) in
      let out : t.out ≡ ps ++ [] = ap (λ (x : List (ℕ × Frame)). x ++ ps) none ∙ sym (append-nil ps) in
      let land = landings-land t ps [] out (AllClients-targets n (sent s.guest)) (subst BoxesFit h.clients.boxes h.clients.fit) in
      rw lives land.2
