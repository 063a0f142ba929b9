-- What the calls of the record keep: one lemma for each event of the guest and of the backup.
use Rattle.std.proofs.Common.{rules, ◌≡◌, ◌≢◌, ℕ, zero, suc, ◌-◌, ◌<◌, ◌≤◌, List, [], ◌∷◌, ◌++◌, length, take, drop, remove, get_or}
use Rattle.std.proofs.Common.{replicate, refl, sym, ap, ◌∙◌, subst, arith, append_assoc, true, false, cond, Some, ⊎_elim}
use Rattle.std.proofs.{lemmas.Bool.{eq-eqb, ne_eqb}, lemmas.Bool.Decides.{eqb_tells}, lemmas.List.{append-nil, length-map}}
use Rattle.std.proofs.lemmas.List.{length-replicate, length-set, map-append, get_or-set_same, get_or-set_other, take-append-drop}
use Rattle.std.specs.Prelude.{map, slice_get, ◌==◌}
use Rattle.guest_rules.specs.Guest.{Guest}
use Rattle.frame_ports.specs.{Addresses.targets_of, Lands.{list_of, with_list}, Ports.{PortsState, empty_ports}}
use Rattle.failover.specs.declared.mode.Mode.{Mode}
use Rattle.output_gate.specs.{Epochs.{Epoch, frames_of}, laws.Epochs.frames_of-append}
use Rattle.pair_history.specs.{Entries.{Frame, Entry}, HistoryState.{HistoryState, Waiting, inbox_of, without_number, at, Legal}}
use Rattle.pair_history.specs.{HistoryState.start_state, Landings.DropsAreAskedOrFull, Moves.{Move, Arrives, entry_of, entries_of}}
use Rattle.pair_history.specs.Moves.{guest_along, frames_along, left, AllCan}
use Rattle.pair_history.specs.laws.{Histories.{at-append, Legal-append}, Landings.BoxesFit-empty, Waiting.{Leaves, StandsAt, leaves-at}}
use Rattle.pair_history.specs.laws.Moves.{guest_along-append, frames_along-append, left-append, AllCan-append, AllCan-front, AllCan-back}
use Rattle.pair_history.specs.laws.{Moves.{moved, at-moves, Legal-moves, sent_along-moves, AreGuests-moves}, Losses.AreRising-left}
use Rattle.pair_history.specs.laws.Drops.{DropsAreAskedOrFull-append, DropsAreAskedOrFull-guests}
use Rattle.frame_ports.specs.laws.Addresses.{targets_of-append}
use Rattle.pair_record.specs.Accords.{all_moves, epoch_frames, frames_by_epoch, AreInboxes, AreClients, Accords, sealed_now}
use Rattle.pair_record.specs.{Accords.{kept_now, left_now}, Record.{IsRecord, start_record, ports_after_admit}}
use Rattle.pair_record.specs.{Protocol.{Record, shown_at, live_at, outbox_of, commit_done}, Window.{committed_of, uncommitted_of}}
use Rattle.pair_record.specs.Window.{committed_count}
use Rattle.pair_history.specs.Reached.{AreRising}
use Rattle.pair_record.specs.laws.Windows.{next_committed}
use Rattle.pair_history.specs.Journal.{joined, first_of, rest_of, kept_entries, with_running}

-- Lists of epochs

-- the first of the epochs that come after so many
pub next_epoch : (n : ℕ) (xs : List Epoch) (e : Epoch) (us : List Epoch) → drop n xs ≡ e ∷ us → (take (suc n) xs ≡ take n xs ++ e ∷ [])
    × (drop (suc n) xs ≡ us)
next_epoch zero [] e us p = absurd (cc)
next_epoch zero (x ∷ xs) e us p = let head : x ≡ e = cc in let tail : xs ≡ us = cc in (ap (λ y. y ∷ []) head, tail)
next_epoch (suc n) [] e us p = absurd (cc)
next_epoch (suc n) (x ∷ xs) e us p = let more = next_epoch n xs e us p in (ap (λ t. x ∷ t) more.0, more.1)

pub all_moves-push : (mss : List (List Move)) (ms : List Move) → all_moves (mss ++ ms ∷ []) ≡ all_moves mss ++ ms
all_moves-push [] ms = append-nil ms
all_moves-push (x ∷ mss) ms = ap (λ t. x ++ t) (all_moves-push mss ms) ∙ sym (append_assoc x (all_moves mss) ms)

pub epoch_frames-push : (g : Guest) (mss : List (List Move)) (ms : List Move)
    → epoch_frames g (mss ++ ms ∷ []) ≡ epoch_frames g mss ++ frames_along (guest_along g (all_moves mss)) ms ∷ []
epoch_frames-push g [] ms = refl
epoch_frames-push g (x ∷ mss) ms = search (arith, rules, guest_along-append, epoch_frames-push (guest_along g x) mss ms)

joined-entries : (mss : List (List Move)) → joined (map entries_of mss) ≡ entries_of (all_moves mss)
joined-entries [] = refl
joined-entries (ms ∷ mss) = ap (λ t. entries_of ms ++ t) (joined-entries mss) ∙ sym (map-append entry_of ms (all_moves mss))

-- the frames of epochs, one after another
of_epochs : (g : Guest) (mss : List (List Move)) (es : List Epoch) → frames_by_epoch es ≡ epoch_frames g mss
    → frames_of es ≡ frames_along g (all_moves mss)
of_epochs g [] [] e = refl
of_epochs g [] (x ∷ es) e = cc
of_epochs g (k ∷ mss) [] e = cc
of_epochs g (k ∷ mss) (x ∷ es) e =
    let head : x.frames ≡ frames_along g k = cc in
    let tail : frames_by_epoch es ≡ epoch_frames (guest_along g k) mss = cc in
    ap (λ t. t ++ frames_of es) head ∙ ap (λ t. frames_along g k ++ t) (of_epochs (guest_along g k) mss es tail)
    ∙ sym (frames_along-append g k (all_moves mss))

-- WHAT THE KEPT ENTRIES DO to the state that clients see

module _ (start : HistoryState) (r : Record) (p : PortsState) (h : Accords start r p) where
  pub sealed_entries : joined r.journal.sealed ≡ entries_of (sealed_now start r p h)
  sealed_entries = ap joined h.journal.sealed_are ∙ joined-entries h.journal.sealed_moves

  pub kept_is : kept_entries r.journal ≡ entries_of (kept_now start r p h)
  kept_is = search (arith, rules, map-append, sealed_entries)

  pub live_is_moved : live_at start r ≡ moved (shown_at start r) (kept_now start r p h)
  live_is_moved = at-append start r.journal.history (kept_entries r.journal) ∙ ap (at (shown_at start r)) kept_is
      ∙ at-moves (shown_at start r) (kept_now start r p h) h.journal.can

  pub live_guest : (live_at start r).guest ≡ guest_along (shown_at start r).guest (kept_now start r p h)
  live_guest = ap (λ s. s.guest) live_is_moved

  pub live_waiting : (live_at start r).waiting ≡ (left_now start r p h)
  live_waiting = ap (λ s. s.waiting) live_is_moved

  pub sealed_state : at start (r.journal.history ++ joined r.journal.sealed) ≡ moved (shown_at start r) (sealed_now start r p h)
  sealed_state = search (arith, rules, AllCan-front, at-append, at-moves, sealed_entries)

  -- what the guest sent along the epoch that runs
  pub sent_is : outbox_of start r ≡ frames_along (guest_along (shown_at start r).guest (sealed_now start r p h)) h.journal.running_moves
  sent_is = search (arith, rules, AllCan-back, moved, sealed_state, sent_along-moves)

  -- Where these frames were sent along an epoch behind what is sealed
  module _ (epoch : List Move) (outbox : List Frame)
      (sent : outbox ≡ frames_along (guest_along (shown_at start r).guest (sealed_now start r p h)) epoch) where
    -- those sent along all of it
    frames_with : frames_along (shown_at start r).guest ((sealed_now start r p h) ++ epoch) ≡ frames_of (uncommitted_of r.window r.pending) ++ outbox
    frames_with =
        frames_along-append (shown_at start r).guest (sealed_now start r p h) epoch
        ∙ ap (λ t. t ++ frames_along (guest_along (shown_at start r).guest (sealed_now start r p h)) epoch)
        (sym (of_epochs (shown_at start r).guest h.journal.sealed_moves (uncommitted_of r.window r.pending) h.frames))
        ∙ ap (λ t. frames_of (uncommitted_of r.window r.pending) ++ t) (sym sent)

    pub owed_with : targets_of (length p.boxes) (frames_of r.pending ++ outbox) ≡ (moved (shown_at start r) ((sealed_now start r p h) ++ epoch)).out
    owed_with =
        let n = length p.boxes in
        let covered = committed_of r.window r.pending in
        let others = uncommitted_of r.window r.pending in
        let ms = (sealed_now start r p h) ++ epoch in
        ap (λ t. targets_of n (frames_of t ++ outbox)) (sym (take-append-drop (committed_count r.window) r.pending))
        ∙ ap (λ t. targets_of n (t ++ outbox)) (frames_of-append covered others)
        ∙ ap (targets_of n) (append_assoc (frames_of covered) (frames_of others) outbox)
        ∙ targets_of-append n (frames_of covered) (frames_of others ++ outbox)
        ∙ ap (λ t. t ++ targets_of n (frames_of others ++ outbox)) (sym h.owed)
        ∙ ap (λ t. (shown_at start r).out ++ targets_of n t) (sym frames_with)
        ∙ ap (λ (b : List (List Frame)). (shown_at start r).out ++ targets_of (length b) (frames_along (shown_at start r).guest ms))
        h.clients.boxes

  pub all_owed : targets_of (length p.boxes) (frames_of r.pending ++ outbox_of start r) ≡ (live_at start r).out
  all_owed = owed_with h.journal.running_moves (outbox_of start r) sent_is ∙ sym (ap (λ s. s.out) live_is_moved)

  -- each sealed epoch has its frames
  pub as_many_frames : length (uncommitted_of r.window r.pending) ≡ length h.journal.sealed_moves
  as_many_frames =
      sym (length-map (uncommitted_of r.window r.pending) (λ (x : Epoch). x.frames)) ∙ ap length h.frames
      ∙ length-frames (shown_at start r).guest h.journal.sealed_moves
    where
      length-frames : (g : Guest) (mss : List (List Move)) → length (epoch_frames g mss) ≡ length mss
      length-frames g [] = refl
      length-frames g (ms ∷ mss) = ap suc (length-frames (guest_along g ms) mss)

-- THE GUEST GOES ON by moves, in the epoch that runs

module _ (start : HistoryState) (r : Record) (p : PortsState) (h : Accords start r p) (ms : List Move) (es : List Entry)
    (inboxes : List (List (ℕ × Frame)))
    (es_are : es ≡ entries_of ms)
    (can : AllCan (left_now start r p h) ms)
    (clients : AreClients (shown_at start r) (left (left_now start r p h) ms) (record p { inboxes = inboxes })) where
  abbrev pub moves_accord : Accords start (record r { journal = with_running r.journal es }) (record p { inboxes = inboxes })
  moves_accord =
      let s = shown_at start r in
      let ran = h.journal.running_moves in
      let sealed = all_moves h.journal.sealed_moves in
      let now = kept_now start r p h in
      let regroup : now ++ ms ≡ sealed ++ (ran ++ ms) = append_assoc sealed ran ms in
      let left_is : left (left_now start r p h) ms ≡ left s.waiting (sealed ++ (ran ++ ms)) = sym (left-append s.waiting now ms)
      ∙ ap (left s.waiting) regroup in
      record {
        journal = record {
          legal = h.journal.legal;
          drops = h.journal.drops;
          sealed_moves = h.journal.sealed_moves;
          running_moves = ran ++ ms;
          sealed_are = h.journal.sealed_are;
          running_are = ap (λ t. t ++ es) h.journal.running_are ∙ ap (λ t. entries_of ran ++ t) es_are ∙ sym (map-append entry_of ran ms);
          can = subst (AllCan s.waiting) regroup (AllCan-append s.waiting now ms h.journal.can can);
        };
        frames = h.frames;
        clients = rw (← left_is) clients;
        owed = h.owed;
      }

-- AN ARRIVAL: the first frame of a client leaves its inbox, and stands last in the epoch that runs

module _ (count c : ℕ) (inboxes : List (List (ℕ × Frame))) (new : List (ℕ × Frame)) (ws vs : List Waiting)
    (low : 1 ≤ c) (high : c ≤ count) (long : length inboxes ≡ count) where
  -- the inboxes once client c's is another
  pub AreInboxes-with : AreInboxes count inboxes ws
      → new ≡ inbox_of c vs
      → ((d : ℕ) → d ≢ c → inbox_of d ws ≡ inbox_of d vs)
      → AreInboxes count (with_list inboxes c new) vs
  AreInboxes-with are here others d l k = ⊎_elim
      (λ (same : ((d - 1 == c - 1) ≡ true) × (d - 1 ≡ c - 1)).
      let is : d ≡ c = let e = same.1 in omega arith in
      let within : c - 1 < length inboxes = omega arith in
      ap (λ j. list_of (with_list inboxes c new) j) is ∙ get_or-set_same inboxes (c - 1) new [] within ∙ here
      ∙ ap (λ j. inbox_of j vs) (sym is))
      (λ (apart : ((d - 1 == c - 1) ≡ false) × (d - 1 ≢ c - 1)).
      get_or-set_other inboxes (c - 1) (d - 1) new [] apart.1 ∙ are d l k ∙ others d (λ (e : d ≡ c). apart.1 (ap (λ j. j - 1) e)))
      (eqb_tells (d - 1) (c - 1))

abbrev pub arrival_accords : (start : HistoryState) (r : Record) (p : PortsState) (h : Accords start r p) (c n : ℕ) (f : Frame) → 1 ≤ c
    → c ≤ length p.boxes
    → slice_get (list_of p.inboxes c) 0 ≡ Some (n, f)
    → AllCan (left_now start r p h) (Arrives n f ∷ [])
    × Accords start (record r { journal = with_running r.journal (entries_of (Arrives n f ∷ [])) }) (ports_after_admit p c)
arrival_accords start r p h c n f low high first =
    let ws = left_now start r p h in
    let k = h.clients in
    let inboxes = p.inboxes in
    let mine : list_of inboxes c ≡ inbox_of c ws = k.inboxes c low high in
    let starts : StandsAt c 0 n f ws = ap (λ t. slice_get t 0) (sym mine) ∙ first in
    let rising = AreRising-left 1 p.next (shown_at start r).waiting (kept_now start r p h) k.rising in
    let leaves : Leaves c 0 n f ws = leaves-at c 0 n f 1 p.next ws rising starts in
    let same : (c == c) ≡ true = eq-eqb c c refl in
    let can : AllCan ws (Arrives n f ∷ []) = (((c, f, starts), leaves.0), tt) in (
      can,
      moves_accord start r p h (Arrives n f ∷ []) (entries_of (Arrives n f ∷ [])) (with_list inboxes c (drop 1 (list_of inboxes c))) refl
          can
          (record {
            number = k.number;
            rising = k.rising;
            count = length-set inboxes (c - 1) (drop 1 (list_of inboxes c)) ∙ k.count;
            inboxes =
                AreInboxes-with (length p.boxes) c inboxes (drop 1 (list_of inboxes c)) ws (without_number n ws) low high k.count k.inboxes
                (ap (drop 1) mine ∙ sym (leaves.1 c ∙ ap (λ t. cond t (remove (inbox_of c ws) 0) (inbox_of c ws)) same))
                (λ d other. sym (leaves.1 d ∙ ap (λ t. cond t (remove (inbox_of c ws) 0) (inbox_of d ws)) (ne_eqb d c other)));
            boxes = k.boxes;
            fit = k.fit;
          }),
    )

-- A CHANGE OF MODE alone

abbrev pub mode_accords : (start : HistoryState) (r : Record) (p : PortsState) → Accords start r p → (mode : Mode)
    → Accords start (record r { mode = mode }) p
mode_accords start r p h mode = record { journal = h.journal; frames = h.frames; clients = h.clients; owed = h.owed }

-- A COMMIT: the oldest sealed epoch moves to the history

module _ (start : HistoryState) (r : Record) (p : PortsState) (h : Accords start r p) (k : IsRecord r) where
  -- what a commit makes of what is kept: the first of these epochs went to the history
  module _ (ms : List Move) (mss : List (List Move)) (moves_are : h.journal.sealed_moves ≡ ms ∷ mss) where
    abbrev rest_of_moves : List Move
    rest_of_moves = all_moves mss ++ h.journal.running_moves

    pub split_moves : kept_now start r p h ≡ ms ++ rest_of_moves
    split_moves =
        ap (λ (t : List (List Move)). all_moves t ++ h.journal.running_moves) moves_are
        ∙ append_assoc ms (all_moves mss) h.journal.running_moves

    pub can_rest : AllCan (shown_at start r).waiting (ms ++ rest_of_moves)
    can_rest = subst (AllCan (shown_at start r).waiting) split_moves h.journal.can

    pub can_first : AllCan (shown_at start r).waiting ms
    can_first = AllCan-front (shown_at start r).waiting ms rest_of_moves can_rest

    pub sealed_is : r.journal.sealed ≡ entries_of ms ∷ map entries_of mss
    sealed_is = h.journal.sealed_are ∙ ap (map entries_of) moves_are

    pub first_is : first_of r.journal.sealed ≡ entries_of ms
    first_is = ap first_of sealed_is

    -- the state that clients see after the commit
    pub shown_after : at start (r.journal.history ++ first_of r.journal.sealed) ≡ moved (shown_at start r) ms
    shown_after =
        at-append start r.journal.history (first_of r.journal.sealed) ∙ ap (at (shown_at start r)) first_is
        ∙ at-moves (shown_at start r) ms can_first

    -- the frames of the oldest checkpoint that wasn't committed are those that the guest sent along them
    pub first_sends : (e : Epoch) (us : List Epoch) → uncommitted_of r.window r.pending ≡ e ∷ us
        → e.frames ≡ frames_along (shown_at start r).guest ms
    first_sends e us us_is =
        let s = shown_at start r in
        let sents : e.frames ∷ frames_by_epoch us ≡ frames_along s.guest ms ∷ epoch_frames (guest_along s.guest ms) mss =
        ap frames_by_epoch (sym us_is) ∙ h.frames ∙ ap (epoch_frames s.guest) moves_are in
        cc

    -- and those of the others, what it sends after them
    pub others_send : (e : Epoch) (us : List Epoch) → uncommitted_of r.window r.pending ≡ e ∷ us
        → frames_by_epoch us ≡ epoch_frames (guest_along (shown_at start r).guest ms) mss
    others_send e us us_is =
        let s = shown_at start r in
        let sents : e.frames ∷ frames_by_epoch us ≡ frames_along s.guest ms ∷ epoch_frames (guest_along s.guest ms) mss =
        ap frames_by_epoch (sym us_is) ∙ h.frames ∙ ap (epoch_frames s.guest) moves_are in
        cc

    abbrev pub commit_accords : (e : Epoch) (us : List Epoch) → uncommitted_of r.window r.pending ≡ e ∷ us → Accords start (commit_done r).1 p
    commit_accords e us us_is =
        let j = r.journal in
        let s = shown_at start r in
        let n = length p.boxes in
        let rest = rest_of_moves in
        let first = first_is in
        let shown = shown_after in
        let g = guest_along s.guest ms in
        let e_sent = first_sends e us us_is in
        let next = next_epoch (committed_count r.window) r.pending e us us_is in
        let more = next_committed r.window r.pending k.window in
        let guest : g ≡ (at start (j.history ++ first_of j.sealed)).guest = sym (ap (λ t. t.guest) shown) in
        let left_is : left s.waiting (kept_now start r p h) ≡ left (at start (j.history ++ first_of j.sealed)).waiting rest =
        ap (left s.waiting) split_moves ∙ left-append s.waiting ms rest ∙ ap (λ t. left t.waiting rest) (sym shown) in
        record {
          journal = record {
            legal = Legal-append start j.history (first_of j.sealed) h.journal.legal
                (subst (Legal s) (sym first) (Legal-moves s ms can_first));
            drops = DropsAreAskedOrFull-append start j.history (first_of j.sealed) h.journal.drops
                (subst (DropsAreAskedOrFull s) (sym first) (DropsAreAskedOrFull-guests s (entries_of ms) (AreGuests-moves ms)));
            sealed_moves = mss;
            running_moves = h.journal.running_moves;
            sealed_are = ap rest_of sealed_is;
            running_are = h.journal.running_are;
            can = rw shown (AllCan-back s.waiting ms rest can_rest);
          };
          frames =
              ap frames_by_epoch (ap (λ m. drop m r.pending) more ∙ next.1) ∙ others_send e us us_is ∙ ap (λ t. epoch_frames t mss) guest;
          clients = record {
            number = h.clients.number ∙ sym (ap (λ t. t.number) shown);
            rising = rw shown (AreRising-left 1 p.next s.waiting ms h.clients.rising);
            count = h.clients.count;
            inboxes = subst (AreInboxes n p.inboxes) left_is h.clients.inboxes;
            boxes = h.clients.boxes ∙ sym (ap (λ t. t.boxes) shown);
            fit = h.clients.fit;
          };
          owed =
              ap (λ t. t.out) shown
              ∙ ap (λ t. t ++ targets_of (length s.boxes) (frames_along s.guest ms)) h.owed
              ∙ ap (λ (b : List (List Frame)). targets_of n (frames_of (committed_of r.window r.pending)) ++ targets_of (length b)
              (frames_along s.guest ms)) (sym h.clients.boxes)
              ∙ ap (λ t. targets_of n (frames_of (committed_of r.window r.pending)) ++ targets_of n t) (sym e_sent)
              ∙ sym (targets_of-append n (frames_of (committed_of r.window r.pending)) e.frames)
              ∙ ap (λ t. targets_of n (frames_of (committed_of r.window r.pending) ++ t)) (sym (append-nil e.frames))
              ∙ ap (targets_of n) (sym (frames_of-append (committed_of r.window r.pending) (e ∷ [])))
              ∙ ap (λ t. targets_of n (frames_of t)) (sym next.0)
              ∙ ap (λ m. targets_of n (frames_of (take m r.pending))) (sym more);
        }

  -- each checkpoint that was cut and not committed has its epoch
  pub some_moves : r.window.to_commit < r.window.to_cut → 0 < length h.journal.sealed_moves
  some_moves more =
      let long = length-map h.journal.sealed_moves entries_of in
      let counted = ap length h.journal.sealed_are in
      let s = k.sealed in
      omega arith

  -- and its frames
  pub some_held : 0 < length h.journal.sealed_moves
      → (e : Epoch) × (us : List Epoch) × (uncommitted_of r.window r.pending ≡ e ∷ us)
  some_held some = let many = as_many_frames start r p h in by_list (uncommitted_of r.window r.pending) refl (omega arith)
    where
      by_list : (es : List Epoch) → uncommitted_of r.window r.pending ≡ es → 0 < length es
          → (e : Epoch) × (us : List Epoch) × (uncommitted_of r.window r.pending ≡ e ∷ us)
      by_list [] is l = absurd (omega arith)
      by_list (e ∷ us) is l = (e, us, is)

-- PORTS whose clients have other numbers

abbrev pub numbered_clients : (s : HistoryState) (ws : List Waiting) (p : PortsState) → AreClients s ws p → (ns : List ℕ)
    → AreClients s ws (record p { numbers = ns })
numbered_clients s ws p h ns = record {
  number = h.number;
  rising = h.rising;
  count = h.count;
  inboxes = h.inboxes;
  boxes = h.boxes;
  fit = h.fit;
}

abbrev pub numbered_accords : (start : HistoryState) (r : Record) (p : PortsState) → Accords start r p → (next : ℕ) (ns : List ℕ)
    → Accords start (record r { next_frame = next }) (record p { numbers = ns })
numbered_accords start r p h next ns = record {
  journal = h.journal;
  frames = h.frames;
  clients = numbered_clients (shown_at start r) (left_now start r p h) p h.clients ns;
  owed = h.owed;
}

-- WHERE A RECORD STARTS

pub nothing : {A : Type 0} (n i : ℕ) → get_or (replicate {A = List A} n []) i [] ≡ []
nothing zero i = refl
nothing (suc n) zero = refl
nothing (suc n) (suc i) = nothing n i

pub no_numbers : (clients : ℕ) → AreRising 1 (empty_ports clients).next []
no_numbers clients = omega arith

abbrev pub start_accords : (pages sectors : ℕ) (image : List ℕ) (clients : ℕ)
    → Accords (start_state pages sectors image clients) start_record (empty_ports clients)
start_accords pages sectors image clients = record {
  journal = record { legal = tt; drops = tt; sealed_moves = []; running_moves = []; sealed_are = refl; running_are = refl; can = tt };
  frames = refl;
  clients = record {
    number = refl;
    rising = no_numbers clients;
    count = length-replicate clients [] ∙ sym (length-replicate clients []);
    inboxes = λ c low high. nothing clients (c - 1);
    boxes = refl;
    fit = BoxesFit-empty clients;
  };
  owed = refl;
}
