-- Where the backup goes live: what was kept is discarded, what the clients are owed lands, and the guest is the history's.
use Rattle.std.proofs.Common.{◌≡◌, ℕ, List, [], ◌++◌, length, refl, sym, ap, ◌∙◌, subst, ◌+◌, arith}
use Rattle.std.proofs.{Math.Seq.{take-nil, drop-nil}, lemmas.List.{length-append}}
use Rattle.frame_ports.specs.{Addresses.targets_of, Lands.lands, Ports.PortsState}
use Rattle.output_gate.specs.Epochs.{Epoch, frames_of}
use Rattle.pair_history.specs.{Entries.{Frame, Entry}, Failures.{go_live_entries, arrived_numbers, drops_of_taken_in}}
use Rattle.pair_history.specs.{HistoryState.{HistoryState, at, Legal}, Landings.{BoxesFit, DropsAreAskedOrFull}, Moves.left}
use Rattle.pair_history.specs.{Order.AreGuests, Reached.AllClients}
use Rattle.pair_history.specs.laws.{Drops.DropsAreAskedOrFull-append, Moves.{AreGuests-moves, Legal-moves}, Landings.AllClients-targets}
use Rattle.pair_history.specs.laws.{Landings.BoxesFit-lands, Losses.AreRising-left, Histories.{at-append, Legal-append}}
use Rattle.pair_history.specs.laws.GoingLive.{go_live-asked, goes_live}
use Rattle.frame_ports.specs.laws.Lands.{length-lands}
use Rattle.pair_record.specs.{Accords.{AreClients, AreInboxes, Accords, kept_now, left_now}, Kept.frames_by_epoch, Protocol.Record}
use Rattle.pair_record.specs.{Protocol.{shown_at, live_entries, go_live_done}, Record.{ports_after_live}}
use Rattle.pair_record.specs.Window.{committed_of, committed_count, none_pending}
use Rattle.pair_record.specs.{FailureActs.entries_with}
use Rattle.pair_history.specs.Journal.{kept_entries, Journal}
use Rattle.pair_record.specs.laws.{Accords.{kept_is, live_waiting}}
use Rattle.pair_history.specs.laws.Joined.{length-drops}

pub length-live : (landed : List Entry) (j : Journal)
    → length (entries_with landed j) ≡ length (arrived_numbers (kept_entries j)) + length landed
length-live landed j =
    let a = length-append (drops_of_taken_in (kept_entries j)) landed in
    let b = length-drops j in
    omega arith

module _ (start : HistoryState) (r : Record) (p : PortsState) (h : Accords start r p) where
  -- where these are the ports' boxes, and these frames what the gate holds of committed checkpoints
  abbrev on_their_way : List (ℕ × Frame)
  on_their_way = targets_of (length p.boxes) (frames_of (committed_of r.window r.pending))

  -- the state that clients see then
  abbrev pub live_shown : HistoryState
  live_shown = record (shown_at start r) { waiting = left_now start r p h; out = []; boxes = lands p.boxes on_their_way }

  pub all_clients : AllClients (length (shown_at start r).boxes) (shown_at start r).out
  all_clients =
      let fs = frames_of (committed_of r.window r.pending) in
      rw (← h.clients.boxes) (subst (AllClients (length p.boxes)) (sym h.owed) (AllClients-targets (length p.boxes) fs))

  pub all_fit : BoxesFit (shown_at start r).boxes
  all_fit = subst BoxesFit h.clients.boxes h.clients.fit

  pub goes_on : let s = shown_at start r in
      (Legal s (go_live_entries s (kept_entries r.journal)))
      × (at start (r.journal.history ++ go_live_entries s (kept_entries r.journal)) ≡ live_shown)
  goes_on =
      let j = r.journal in
      let s = shown_at start r in
      let ms = kept_now start r p h in
      let kept = kept_entries j in
      let es = go_live_entries s kept in
      let legal : Legal s kept = subst (Legal s) (sym (kept_is start r p h)) (Legal-moves s ms h.journal.can) in
      let guests : AreGuests kept = subst AreGuests (sym (kept_is start r p h)) (AreGuests-moves ms) in
      let goes = goes_live s kept all_clients all_fit guests legal in
      let waiting : (at s kept).waiting ≡ left_now start r p h =
      ap (λ (t : HistoryState). t.waiting) (sym (at-append start j.history kept)) ∙ live_waiting start r p h in (
        goes.0,
        at-append start j.history es ∙ goes.1
            ∙ (λ i. record s { waiting = waiting i; out = []; boxes = lands (sym h.clients.boxes i) (h.owed i) }),
      )

  abbrev entries_now : List Entry
  entries_now = live_entries p.boxes on_their_way r.journal

  pub entries_are : go_live_entries (shown_at start r) (kept_entries r.journal) ≡ entries_now
  entries_are = λ i. live_entries (sym h.clients.boxes i) (h.owed i) r.journal

  pub live_shown_is : at start (r.journal.history ++ entries_now) ≡ live_shown
  live_shown_is = ap (λ (es : List Entry). at start (r.journal.history ++ es)) (sym entries_are) ∙ goes_on.1

  abbrev pub live_accords : (steps : ℕ) → Accords start (go_live_done p.boxes on_their_way steps r).1 (ports_after_live p r)
  live_accords steps =
      let j = r.journal in
      let s = shown_at start r in
      let b = p.boxes in
      let ms = kept_now start r p h in
      let shown = live_shown_is in
      let window = none_pending r.window.to_commit in
      let long : length (lands b on_their_way) ≡ length b = length-lands b on_their_way in
      let inboxes : AreInboxes (length b) p.inboxes (left live_shown.waiting []) = h.clients.inboxes in
      let clients : AreClients live_shown (left live_shown.waiting []) (ports_after_live p r) = record {
        number = h.clients.number;
        rising = AreRising-left 1 p.next s.waiting ms h.clients.rising;
        count = h.clients.count ∙ sym long;
        inboxes = rw long inboxes;
        boxes = refl;
        fit = BoxesFit-lands b on_their_way h.clients.fit;
      } in
      record {
        journal = record {
          legal = Legal-append start j.history entries_now h.journal.legal (subst (Legal s) entries_are goes_on.0);
          drops = DropsAreAskedOrFull-append start j.history entries_now h.journal.drops
              (subst (DropsAreAskedOrFull s) entries_are (go_live-asked s (kept_entries j) all_clients all_fit));
          sealed_moves = [];
          running_moves = [];
          sealed_are = refl;
          running_are = refl;
          can = tt;
        };
        frames = ap frames_by_epoch (drop-nil (committed_count window));
        clients = rw shown clients;
        owed =
            ap (λ (t : HistoryState). t.out) shown
            ∙ ap (λ (es : List Epoch). targets_of (length (lands b on_their_way)) (frames_of es)) (sym (take-nil (committed_count window)));
      }
