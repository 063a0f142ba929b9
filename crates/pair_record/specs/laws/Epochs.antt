-- Where an epoch is sealed, and where one enters the history with what leaves the gate: it is a beginning of what runs, maybe with steps
-- behind it, and the rest of what runs goes on.
use Rattle.std.proofs.Common.{◌≡◌, ℕ, ◌+◌, ◌≤◌, List, [], ◌∷◌, ◌++◌, length, drop, refl, sym, ap, ◌∙◌, subst}
use Rattle.std.proofs.{Common.append_assoc, lemmas.List.{append-nil, map-append, drop-append-le, take-append-le}, Math.Seq.take-nil}
use Rattle.std.proofs.Math.Seq.{drop-nil}
use Rattle.std.specs.Prelude.{map}
use Rattle.frame_ports.specs.{Addresses.targets_of, Lands.lands, Ports.PortsState}
use Rattle.failover.specs.declared.mode.Mode.{Mode}
use Rattle.output_gate.specs.Epochs.{Epoch, frames_of}
use Rattle.pair_history.specs.{Entries.{Frame, Entry}, HistoryState.{HistoryState, at, Legal}, Landings.{landings, DropsAreAskedOrFull}}
use Rattle.pair_history.specs.{Landings.BoxesFit, Moves.{Move, entry_of, entries_of, guest_along, frames_along, left, AllCan}}
use Rattle.pair_history.specs.Reached.{AllClients}
use Rattle.pair_history.specs.laws.{Histories.{at-append, Legal-append}, Losses.AreRising-left, Moves.{AreGuests-moves, moved, at-moves}}
use Rattle.pair_history.specs.laws.{Moves.{Legal-moves, AllCan-front, AllCan-back, left-append}, Drops.DropsAreAskedOrFull-append}
use Rattle.pair_history.specs.laws.{Drops.{DropsAreAskedOrFull-guests, at_full-asked}, Landings.{BoxesFit-lands, AllClients-targets}}
use Rattle.pair_history.specs.laws.Landings.{landings-land, AllLand}
use Rattle.frame_ports.specs.laws.Lands.{length-lands}
use Rattle.pair_record.specs.{declared.window.Window.Window, Record.ports_after_all, Accords.{all_moves, epoch_frames, frames_by_epoch}}
use Rattle.pair_record.specs.{Accords.{AreInboxes, AreClients, Accords, sealed_now, left_now}, Protocol.{Record, shown_at, all_held}}
use Rattle.pair_record.specs.{Protocol.{seal_done, landed_after}, Window.committed_count}
use Rattle.pair_history.specs.Journal.{joined}
use Rattle.pair_record.specs.laws.Accords.{sealed_entries, owed_with, all_moves-push, epoch_frames-push}

module _ (start : HistoryState) (r : Record) (p : PortsState) (h : Accords start r p) (epoch held : List Move) (es rest : List Entry)
    (es_are : es ≡ entries_of epoch)
    (rest_are : rest ≡ entries_of held)
    (can : AllCan (shown_at start r).waiting (sealed_now start r p h ++ (epoch ++ held)))
    (same : left (shown_at start r).waiting (sealed_now start r p h ++ (epoch ++ held)) ≡ left_now start r p h)
    (frames : List Frame)
    (sent : frames ≡ frames_along (guest_along (shown_at start r).guest (sealed_now start r p h)) epoch) where
  abbrev s : HistoryState
  s = shown_at start r

  abbrev first : List Move
  first = sealed_now start r p h ++ epoch

  regroup : sealed_now start r p h ++ (epoch ++ held) ≡ first ++ held
  regroup = sym (append_assoc (sealed_now start r p h) epoch held)

  pub can_all : AllCan s.waiting (first ++ held)
  can_all = subst (AllCan s.waiting) regroup can

  pub left_is : left s.waiting (first ++ held) ≡ left_now start r p h
  left_is = ap (left s.waiting) (sym regroup) ∙ same

  -- IT IS SEALED
  abbrev pub seal_accords : committed_count r.window ≤ length r.pending → Accords start (seal_done es rest frames r).1 p
  seal_accords enough =
      let j = r.journal in
      let e : Epoch = record { number = r.window.to_cut; frames = frames } in
      let n = committed_count r.window in
      let mss = h.journal.sealed_moves in
      let now : first ++ held ≡ all_moves (mss ++ epoch ∷ []) ++ held = ap (λ t. t ++ held) (sym (all_moves-push mss epoch)) in
      record {
        journal = record {
          legal = h.journal.legal;
          drops = h.journal.drops;
          sealed_moves = mss ++ epoch ∷ [];
          running_moves = held;
          sealed_are =
              ap (λ t. t ++ es ∷ []) h.journal.sealed_are ∙ ap (λ t. map entries_of mss ++ t ∷ []) es_are
              ∙ sym (map-append entries_of mss (epoch ∷ []));
          running_are = rest_are;
          can = subst (AllCan s.waiting) now can_all;
        };
        frames =
            ap frames_by_epoch (drop-append-le n r.pending (e ∷ []) enough)
            ∙ map-append (λ (x : Epoch). x.frames) (drop n r.pending) (e ∷ [])
            ∙ ap (λ t. t ++ frames ∷ []) h.frames
            ∙ ap (λ t. epoch_frames s.guest mss ++ t ∷ []) sent
            ∙ sym (epoch_frames-push s.guest mss epoch);
        clients = subst (λ ws. AreClients s ws p) (sym left_is ∙ ap (left s.waiting) now) h.clients;
        owed = h.owed ∙ ap (λ t. targets_of (length p.boxes) (frames_of t)) (sym (take-append-le n r.pending (e ∷ []) enough));
      }

  -- IT ENTERS THE HISTORY, behind what is sealed, and what the gate holds lands, and then what the guest sent along it
  abbrev pub leaving : List (ℕ × Frame)
  leaving = all_held p.boxes frames r

  abbrev u : HistoryState
  u = moved s first

  abbrev entries : List Entry
  entries = joined r.journal.sealed ++ es

  pub can_first : AllCan s.waiting first
  can_first = AllCan-front s.waiting first held can_all

  pub entries_are : entries ≡ entries_of first
  entries_are =
      (λ i. sealed_entries start r p h i ++ es_are i) ∙ sym (map-append entry_of (sealed_now start r p h) epoch)

  pub entered_is : at start (r.journal.history ++ entries) ≡ u
  entered_is = at-append start r.journal.history entries ∙ ap (at s) entries_are ∙ at-moves s first can_first

  -- what leaves lands, or finds its client's box full
  pub all_land : AllLand (at start (r.journal.history ++ entries)) leaving [] (landings p.boxes leaving)
  all_land =
      let b = p.boxes in
      let ps = leaving in
      let out : u.out ≡ ps ++ [] = sym (owed_with start r p h epoch frames sent) ∙ sym (append-nil ps) in
      let all : AllClients (length b) ps = AllClients-targets (length b) (frames_of r.pending ++ frames) in
      let land : AllLand u ps [] (landings u.boxes ps) =
      landings-land u ps [] out (subst (λ (x : List (List Frame)). AllClients (length x) ps) h.clients.boxes all)
      (subst BoxesFit h.clients.boxes h.clients.fit) in
      subst (λ (t : HistoryState). AllLand t ps [] (landings b ps)) (sym entered_is)
      (subst (λ (x : List (List Frame)). AllLand u ps [] (landings x ps)) (sym h.clients.boxes) land)

  -- the state that clients see then
  abbrev pub landed_state : HistoryState
  landed_state = record u { out = []; boxes = lands p.boxes leaving }

  pub landed_is : at start ((r.journal.history ++ entries) ++ landings p.boxes leaving) ≡ landed_state
  landed_is =
      at-append start (r.journal.history ++ entries) (landings p.boxes leaving) ∙ all_land.1
      ∙ ap (λ (t : HistoryState). record t { out = []; boxes = lands t.boxes leaving }) entered_is
      ∙ (λ i. record u { out = []; boxes = lands (sym h.clients.boxes i) leaving })

  module _ (mode : Mode) (window : Window) where
    abbrev pub landed_accords : Accords start (record r {
      mode = mode;
      journal = landed_after es rest p.boxes leaving r.journal;
      window = window;
      pending = [];
      next_frame = r.next_frame + length frames;
    }) (ports_after_all p frames r)
    landed_accords =
        let j = r.journal in
        let b = p.boxes in
        let lands_so = landings b leaving in
        let legal : Legal s entries = subst (Legal s) (sym entries_are) (Legal-moves s first can_first) in
        let drops : DropsAreAskedOrFull s entries =
        subst (DropsAreAskedOrFull s) (sym entries_are) (DropsAreAskedOrFull-guests s (entries_of first) (AreGuests-moves first)) in
        let all = j.history ++ entries in
        let shown = landed_is in
        let long : length (lands b leaving) ≡ length b = length-lands b leaving in
        let waits : left_now start r p h ≡ left landed_state.waiting held = sym left_is ∙ left-append s.waiting first held in
        let inboxes : AreInboxes (length b) p.inboxes (left landed_state.waiting held) =
        subst (AreInboxes (length b) p.inboxes) waits h.clients.inboxes in
        let clients : AreClients landed_state (left landed_state.waiting held) (ports_after_all p frames r) =
        record {
          number = h.clients.number;
          rising = AreRising-left 1 p.next s.waiting first h.clients.rising;
          count = h.clients.count ∙ sym long;
          inboxes = rw long inboxes;
          boxes = refl;
          fit = BoxesFit-lands b leaving h.clients.fit;
        } in
        let goes_on : AllCan landed_state.waiting held = AllCan-back s.waiting first held can_all in
        record {
          journal = record {
            legal = Legal-append start all lands_so (Legal-append start j.history entries h.journal.legal legal) all_land.0;
            drops =
                DropsAreAskedOrFull-append start all lands_so (DropsAreAskedOrFull-append start j.history entries h.journal.drops drops)
                (at_full-asked (at start all) lands_so all_land.2);
            sealed_moves = [];
            running_moves = held;
            sealed_are = refl;
            running_are = rest_are;
            can = rw shown goes_on;
          };
          frames = ap frames_by_epoch (drop-nil (committed_count window));
          clients = rw shown clients;
          owed =
              ap (λ (t : HistoryState). t.out) shown
              ∙ ap (λ (es : List Epoch). targets_of (length (lands b leaving)) (frames_of es)) (sym (take-nil (committed_count window)));
        }
