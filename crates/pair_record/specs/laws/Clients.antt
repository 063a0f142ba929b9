-- What clients, their lines and acknowledgements do keeps the accord: it goes into the history, before what is kept.
use Rattle.std.proofs.Common.{◌≡◌, ℕ, ◌+◌, ◌-◌, ◌<◌, ◌≤◌, List, [], ◌∷◌, ◌++◌, length, drop, remove, refl, sym, ap, ◌∙◌, subst, arith, Bool}
use Rattle.std.proofs.{Common.{true, cond, Some, inl}, lemmas.Bool.{eq-eqb, lt-ltb}, lemmas.List.Edits.length-remove}
use Rattle.std.proofs.lemmas.List.{append-nil, length-set}
use Rattle.std.specs.Prelude.{slice_get, nat_lt, ◌==◌}
use Rattle.guest_rules.specs.Guest.{Guest}
use Rattle.frame_ports.specs.{Addresses.{IsFrame, targets_of}, Lands.{list_of, with_list, lands}, Ports.{PortsState, after_delivery}}
use Rattle.frame_ports.specs.Limits.{inbox_frames, box_frames}
use Rattle.output_gate.specs.Epochs.{Epoch, frames_to, frames_of}
use Rattle.pair_history.specs.Entries.{Frame, Entry, Delivered, Refused, DropIn, DropOut, Took}
use Rattle.pair_history.specs.HistoryState.{HistoryState, Waiting, inbox_of, without_number, out_without, at, Legal, Allows}
use Rattle.pair_history.specs.Landings.{landings, DropsAreAskedOrFull, BoxesFit}
use Rattle.pair_history.specs.Moves.{left, AllCan}
use Rattle.pair_history.specs.laws.Drops.{DropsAreAskedOrFull-append, at_full-asked}
use Rattle.pair_history.specs.laws.Histories.{at-append, Legal-append}
use Rattle.frame_ports.specs.laws.Addresses.{targets_of-append}
use Rattle.pair_history.specs.laws.Waiting.{inbox_of-append, AreRising-push, AreRising-without, StandsAt, Leaves, leaves-at}
use Rattle.pair_history.specs.laws.Losses.{AreRising-left, LeavesBefore, leaves-before}
use Rattle.pair_history.specs.laws.Moves.{AllCan-more, left-more, left-shorter}
use Rattle.frame_ports.specs.laws.Lands.{length-lands}
use Rattle.pair_history.specs.laws.Landings.{BoxesFit-set, BoxesFit-at, BoxesFit-lands, AllClients-targets, landings-land}
use Rattle.pair_history.specs.Leaving.{LeaveInOrder}
use Rattle.pair_history.specs.laws.Landings.{AllLand}
use Rattle.pair_history.specs.Reached.{AllClients}
use Rattle.pair_history.specs.laws.Leaving.{landings-leave}
use Rattle.pair_record.specs.declared.window.Window.{Window}
use Rattle.pair_history.specs.Journal.{with_history}
use Rattle.pair_record.specs.Accords.{epoch_frames, frames_by_epoch, AreClients, Accords}
use Rattle.pair_record.specs.Protocol.{Record, shown_at, ack_done, deliver_done, take_done, loss_done, let_go}
use Rattle.pair_record.specs.Record.{IsRecord, ports_after_ack, ports_after_take, ports_after_lose_in, ports_after_lose_out}
use Rattle.pair_record.specs.Window.{committed_of, uncommitted_of}
use Rattle.output_gate.specs.laws.Epochs.{frames_of-append}
use Rattle.pair_record.specs.Accords.{kept_now, left_now}
use Rattle.pair_record.specs.laws.Accords.{AreInboxes-with}
use Rattle.std.proofs.lemmas.Bool.{ne_eqb}
use Rattle.pair_record.specs.laws.Windows.{leaves, gone, committed_left, uncommitted_left}

-- A CLIENT'S EVENT goes into the history, before what is kept: the guest stays as it is

module _ (start : HistoryState) (r : Record) (p : PortsState) (h : Accords start r p) (es : List Entry) (now : HistoryState)
    (leads : at (shown_at start r) es ≡ now)
    (guest : now.guest ≡ (shown_at start r).guest)
    (legal : Legal (shown_at start r) es)
    (drops : DropsAreAskedOrFull (shown_at start r) es)
    (can : AllCan now.waiting (kept_now start r p h))
    (ports : PortsState)
    (clients : AreClients now (left now.waiting (kept_now start r p h)) ports)
    (window : Window) (pending : List Epoch)
    (same : uncommitted_of window pending ≡ uncommitted_of r.window r.pending)
    (owed : now.out ≡ targets_of (length ports.boxes) (frames_of (committed_of window pending))) where
  abbrev pub history_accords : Accords start (record r { journal = with_history r.journal es; window = window; pending = pending }) ports
  history_accords =
      let history = r.journal.history in
      let shown : now ≡ at start (history ++ es) = sym (at-append start history es ∙ leads) in
      let ms = kept_now start r p h in
      record {
        journal = record {
          legal = Legal-append start history es h.journal.legal legal;
          drops = DropsAreAskedOrFull-append start history es h.journal.drops drops;
          sealed_moves = h.journal.sealed_moves;
          running_moves = h.journal.running_moves;
          sealed_are = h.journal.sealed_are;
          running_are = h.journal.running_are;
          can = rw shown at can;
        };
        frames =
            ap frames_by_epoch same ∙ h.frames
            ∙ ap (λ (g : Guest). epoch_frames g h.journal.sealed_moves) (sym guest ∙ ap (λ t. t.guest) shown);
        clients = rw shown at clients;
        owed = ap (λ t. t.out) (sym shown) ∙ owed;
      }

-- the first frame of a client's box may be taken, and then the box still fits
pub took : (s : HistoryState) (c : ℕ) (box : List Frame) → list_of s.boxes c ≡ box → 1 ≤ c → c ≤ length s.boxes
    → Allows s (Took c (slice_get box 0))
took s c [] e l k = ((l, k), e)
took s c (f ∷ fs) e l k = ((l, k), ap (λ b. slice_get b 0) e)

pub shorter : (xs : List Frame) → length xs ≤ box_frames → length (drop 1 xs) ≤ box_frames
shorter [] l = l
shorter (x ∷ xs) l = omega arith

module _ (start : HistoryState) (r : Record) (p : PortsState) (h : Accords start r p) where
  -- a client of the ports is one of the history's
  pub high_there : (c : ℕ) → c ≤ length p.boxes → c ≤ length (shown_at start r).boxes
  high_there c l = rw (← h.clients.boxes) l

  -- An acknowledgement: what the gate held up to that checkpoint is the front of what the history owes
  module _ (k : IsRecord r) (n : ℕ) (below : n < r.window.to_commit) where
    abbrev owed_after : List (ℕ × Frame)
    owed_after = targets_of (length p.boxes) (frames_of (leaves r.window r.pending k.window n below).stay)

    owed_first : (shown_at start r).out ≡ let_go p.boxes r n ++ owed_after
    owed_first =
        let m = length p.boxes in
        let t = leaves r.window r.pending k.window n below in
        h.owed ∙ ap (λ x. targets_of m (frames_of x)) t.split ∙ ap (targets_of m) (frames_of-append t.gone t.stay)
        ∙ targets_of-append m (frames_of t.gone) (frames_of t.stay)
        ∙ ap (λ x. targets_of m x ++ owed_after) (sym (gone r.window r.pending k.window n below))

    all_clients : AllClients (length (shown_at start r).boxes) (let_go p.boxes r n)
    all_clients =
        subst (λ (x : List (List Frame)). AllClients (length x) (let_go p.boxes r n)) h.clients.boxes
        (AllClients-targets (length p.boxes) (frames_to n r.pending))

    -- it lands, or finds its client's box full
    pub ack_lands : AllLand (shown_at start r) (let_go p.boxes r n) owed_after
        (landings p.boxes (let_go p.boxes r n))
    ack_lands =
        let s = shown_at start r in
        let ps = let_go p.boxes r n in
        subst (λ (x : List (List Frame)). AllLand s ps owed_after (landings x ps)) (sym h.clients.boxes)
        (landings-land s ps owed_after owed_first all_clients (subst BoxesFit h.clients.boxes h.clients.fit))

    -- and leaves in order
    pub ack_leaves : LeaveInOrder (shown_at start r) (landings p.boxes (let_go p.boxes r n)) (let_go p.boxes r n)
    ack_leaves =
        let s = shown_at start r in
        let ps = let_go p.boxes r n in
        subst (λ (x : List (List Frame)). LeaveInOrder s (landings x ps) ps) (sym h.clients.boxes)
        (landings-leave s ps owed_after owed_first all_clients (subst BoxesFit h.clients.boxes h.clients.fit))

  abbrev pub ack_accords : IsRecord r → (n : ℕ) → n < r.window.to_commit
      → Accords start (ack_done p.boxes r n).1 (ports_after_ack p r n)
  ack_accords k n below =
      let s = shown_at start r in
      let b = p.boxes in
      let t = leaves r.window r.pending k.window n below in
      let ps = let_go b r n in
      let qs = targets_of (length b) (frames_of t.stay) in
      let same : s.boxes ≡ b = sym h.clients.boxes in
      let land = ack_lands k n below in
      let long : length (lands b ps) ≡ length b = length-lands b ps in
      let now : HistoryState = record s { out = qs; boxes = lands b ps } in
      history_accords start r p h (landings b ps) now (land.1 ∙ (λ i. record s { out = qs; boxes = lands (same i) ps })) refl
      land.0 (at_full-asked s (landings b ps) land.2) h.journal.can (ports_after_ack p r n)
      (record {
        number = h.clients.number;
        rising = h.clients.rising;
        count = h.clients.count ∙ sym long;
        inboxes = rw long h.clients.inboxes;
        boxes = refl;
        fit = BoxesFit-lands b ps h.clients.fit;
      })
      (ack_done b r n).1.window (ack_done b r n).1.pending (uncommitted_left r.window r.pending k.window n below)
      (ap (λ (x : ℕ). targets_of x (frames_of t.stay)) (sym long)
      ∙ ap (λ x. targets_of (length (lands b ps)) (frames_of x)) (sym (committed_left r.window r.pending k.window n below)))

  module _ (c : ℕ) (low : 1 ≤ c) (high : c ≤ length p.boxes) where
    -- Take
    abbrev pub take_accords : Accords start (take_done p.boxes r c).1 (ports_after_take p c)
    take_accords =
        let s = shown_at start r in
        let b = p.boxes in
        let box = list_of b c in
        let entry = Took c (slice_get box 0) in
        let allowed : Allows s entry = rw h.clients.boxes (took s c (list_of s.boxes c) refl low (high_there c high)) in
        let long : length (with_list b c (drop 1 box)) ≡ length b = length-set b (c - 1) (drop 1 box) in
        let now : HistoryState = record s { boxes = with_list b c (drop 1 box) } in
        history_accords start r p h (entry ∷ []) now
        (λ i. record s { boxes = with_list (sym h.clients.boxes i) c (drop 1 (list_of (sym h.clients.boxes i) c)) }) refl
        (allowed, tt) tt h.journal.can (ports_after_take p c)
        (record {
          number = h.clients.number;
          rising = h.clients.rising;
          count = h.clients.count ∙ sym long;
          inboxes = rw long h.clients.inboxes;
          boxes = refl;
          fit = BoxesFit-set b (c - 1) (drop 1 box) h.clients.fit (shorter box (BoxesFit-at b (c - 1) h.clients.fit));
        })
        r.window r.pending refl
        (h.owed ∙ ap (λ (x : ℕ). targets_of x (frames_of (committed_of r.window r.pending))) (sym long))

    -- LoseIn: a frame that still waits after what is kept leaves before it
    abbrev pub lose_in_accords : (place n : ℕ) (f : Frame) → slice_get (list_of p.inboxes c) place ≡ Some (n, f)
        → Accords start (loss_done r (DropIn n)).1 (ports_after_lose_in p c place)
    lose_in_accords place n f there =
        let s = shown_at start r in
        let ms = kept_now start r p h in
        let ws = left_now start r p h in
        let fewer = remove (list_of p.inboxes c) place in
        let rising = AreRising-left 1 p.next s.waiting ms h.clients.rising in
        let mine : list_of p.inboxes c ≡ inbox_of c ws = h.clients.inboxes c low high in
        let stands : StandsAt c place n f ws = ap (λ t. slice_get t place) (sym mine) ∙ there in
        let leaves : Leaves c place n f ws = leaves-at c place n f 1 p.next ws rising stands in
        let before : LeavesBefore n f s.waiting ms = leaves-before n f 1 p.next s.waiting ms h.clients.rising h.journal.can leaves.0 in
        let now : HistoryState = record s { waiting = without_number n s.waiting } in
        let same : (c == c) ≡ true = eq-eqb c c refl in
        history_accords start r p h (DropIn n ∷ []) now refl refl ((f, before.0), tt) tt before.1 (ports_after_lose_in p c place)
        (record {
          number = h.clients.number;
          rising = AreRising-without n 1 p.next s.waiting h.clients.rising;
          count = length-set p.inboxes (c - 1) fewer ∙ h.clients.count;
          inboxes =
              rw before.2 (AreInboxes-with (length p.boxes) c p.inboxes fewer ws (without_number n ws) low high h.clients.count
              h.clients.inboxes (ap (λ t. remove t place) mine ∙ sym (leaves.1 c ∙ ap (λ t. cond t (remove (inbox_of c ws) place) (inbox_of
              c ws)) same)) (λ d other. sym (leaves.1 d ∙ ap (λ t. cond t (remove (inbox_of c ws) place) (inbox_of d ws)) (ne_eqb d c
              other))));
          boxes = h.clients.boxes;
          fit = h.clients.fit;
        })
        r.window r.pending refl h.owed

    pub is_boxed : (place : ℕ) → place < length (list_of p.boxes c) → place < length (list_of (shown_at start r).boxes c)
    is_boxed place there = rw (← h.clients.boxes) there

    pub may_drop : (place : ℕ) → place < length (list_of p.boxes c) → Allows (shown_at start r) (DropOut c place)
    may_drop place there = let boxed = is_boxed place there in ((low, high_there c high), omega arith)

    pub fewer_fit : (place : ℕ) → place < length (list_of p.boxes c) → length (remove (list_of p.boxes c) place) ≤ box_frames
    fewer_fit place there =
        let k = length-remove (list_of p.boxes c) place there in
        let l = BoxesFit-at p.boxes (c - 1) h.clients.fit in
        omega arith

    pub many_wait : inbox_frames ≤ length (list_of p.inboxes c) → inbox_frames ≤ length (inbox_of c (shown_at start r).waiting)
    many_wait full =
        let s = shown_at start r in
        let mine = ap length (h.clients.inboxes c low high) in
        let fewer = left-shorter c s.waiting (kept_now start r p h) in
        omega arith

    -- LoseOut: a frame leaves the box
    abbrev pub lose_out_accords : (place : ℕ) → place < length (list_of p.boxes c)
        → Accords start (loss_done r (DropOut c place)).1 (ports_after_lose_out p c place)
    lose_out_accords place there =
        let s = shown_at start r in
        let b = p.boxes in
        let box = list_of b c in
        let fewer = remove box place in
        let same : s.boxes ≡ b = sym h.clients.boxes in
        let boxed = is_boxed place there in
        let test : nat_lt place (length (list_of s.boxes c)) ≡ true = lt-ltb place (length (list_of s.boxes c)) boxed in
        let long : length (with_list b c fewer) ≡ length b = length-set b (c - 1) fewer in
        let now : HistoryState = record s { boxes = with_list b c fewer } in
        let without = out_without c (place - length (list_of s.boxes c)) s.out in
        let others = with_list s.boxes c (remove (list_of s.boxes c) place) in
        history_accords start r p h (DropOut c place ∷ []) now
        (ap (λ (t : Bool). record s { out = cond t s.out without; boxes = cond t others s.boxes }) test
        ∙ (λ i. record s { boxes = with_list (same i) c (remove (list_of (same i) c) place) }))
        refl (may_drop place there, tt) (inl boxed, tt) h.journal.can (ports_after_lose_out p c place)
        (record {
          number = h.clients.number;
          rising = h.clients.rising;
          count = h.clients.count ∙ sym long;
          inboxes = rw long h.clients.inboxes;
          boxes = refl;
          fit = BoxesFit-set b (c - 1) fewer h.clients.fit (fewer_fit place there);
        })
        r.window r.pending refl
        (h.owed ∙ ap (λ (x : ℕ). targets_of x (frames_of (committed_of r.window r.pending))) (sym long))

    module _ (bytes : List ℕ) (frame : IsFrame (record { items = bytes })) where
      abbrev the_frame : Frame
      the_frame = record { items = bytes }

      -- Deliver: the frame waits after the others, also after what is kept
      abbrev pub deliver_accords : Accords start (deliver_done r c the_frame p.next).1 (after_delivery p c bytes)
      deliver_accords =
          let s = shown_at start r in
          let f = the_frame in
          let x : Waiting = record { number = p.next; client = c; frame = f } in
          let ms = kept_now start r p h in
          let ws = left_now start r p h in
          let now : HistoryState = record s { number = s.number + 1; waiting = s.waiting ++ x ∷ [] } in
          let left_is : ws ++ x ∷ [] ≡ left (s.waiting ++ x ∷ []) ms = sym (left-more s.waiting (x ∷ []) ms h.journal.can) in
          let mine : list_of p.inboxes c ≡ inbox_of c ws = h.clients.inboxes c low high in
          let longer = list_of p.inboxes c ++ (p.next, f) ∷ [] in
          history_accords start r p h (Delivered c f p.next ∷ []) now refl refl
          (((low, high_there c high), frame, h.clients.number), tt) tt (AllCan-more s.waiting (x ∷ []) ms h.journal.can)
          (after_delivery p c bytes)
          (record {
            number = ap (λ k. k + 1) h.clients.number;
            rising = AreRising-push 1 p.next s.waiting x h.clients.rising refl;
            count = length-set p.inboxes (c - 1) longer ∙ h.clients.count;
            inboxes =
                rw (← left_is)
                (AreInboxes-with (length p.boxes) c p.inboxes longer ws (ws ++ x ∷ []) low high h.clients.count h.clients.inboxes
                (ap (λ t. t ++ (p.next, f) ∷ []) mine
                ∙ ap (λ (t : Bool). inbox_of c ws ++ cond t ((p.next, f) ∷ []) []) (sym (eq-eqb c c refl))
                ∙ sym (inbox_of-append c ws (x ∷ [])))
                (λ d other.
                sym (append-nil (inbox_of d ws))
                ∙ ap (λ (t : Bool). inbox_of d ws ++ cond t ((p.next, f) ∷ []) []) (sym (ne_eqb c d (λ (e : c ≡ d). other (sym e))))
                ∙ sym (inbox_of-append d ws (x ∷ []))));
            boxes = h.clients.boxes;
            fit = h.clients.fit;
          })
          r.window r.pending refl h.owed

      -- Deliver at a full inbox: that is recorded, and that is all
      abbrev pub full_accords : inbox_frames ≤ length (list_of p.inboxes c)
          → Accords start (record r { journal = with_history r.journal (Refused c the_frame ∷ []) }) p
      full_accords full =
          let s = shown_at start r in
          history_accords start r p h (Refused c the_frame ∷ []) s refl refl
          (((low, high_there c high), frame, many_wait full), tt) tt h.journal.can p
          h.clients
          r.window r.pending refl h.owed
