-- What clients, their lines and acknowledgements do keeps the invariant: the record's part is its own law, and the nodes stay.
use Rattle.std.proofs.Common.{◌≡◌, ℕ, ◌-◌, ◌<◌, ◌≤◌, Bool, true, false, List, [], ◌∷◌, ◌++◌, length, drop, remove, refl, sym, ap, ◌∙◌, Some, None, arith}
use Rattle.std.proofs.{Math.Path.transport, lemmas.List.length-set}
use Rattle.std.specs.Prelude.{slice_get}
use Rattle.frame_ports.specs.{Addresses.IsFrame, Lands.list_of, Limits.inbox_frames, Ports.{PortsState, after_delivery}}
use Rattle.output_gate.specs.Epochs.{Epoch}
use Rattle.pair_history.specs.Entries.{Frame, Entry, Delivered, Refused, DropIn, DropOut, Took}
use Rattle.pair_history.specs.{HistoryState.{HistoryState, at}, Landings.landings}
use Rattle.pair_history.specs.laws.Histories.{at-append}
use Rattle.pair_record.specs.{Accords.Accords, Journal.with_history, declared.window.Window.Window, Modes.is_alone}
use Rattle.pair_record.specs.Protocol.{Record, Outcome, ack_done, deliver_done, delivery_refused, take_done, loss_done, loss_of, loss_reply}
use Rattle.pair_record.specs.Protocol.{first_refusal, deliver_refusals, loss_refusals, lost_in, lost_out, let_go}
use Rattle.pair_record.specs.{declared.event.Refusal.Refusal, Record.ports_if_lost}
use Rattle.pair_record.specs.declared.event.Refusal.TheVariants as refusals
use Rattle.pair_record.specs.declared.event.Reply.TheVariants as replies
use Rattle.pair_record.specs.Record.{IsRecord, AreNumbered, ports_after_ack, ports_after_take, ports_after_lose_in, ports_after_lose_out}
use Rattle.pair_record.specs.laws.Clients.{ack_lands, ack_accords, take_accords, lose_in_accords, lose_out_accords, deliver_accords}
use Rattle.pair_record.specs.laws.{Clients.full_accords, Tables.{lost_waiting, lost_landed, lost_none, delivery_full}}
use Rattle.pair_core.specs.{Invariant.{AreNodes, Holds}, Kept.KeepsFrames, Pair.{Pair, AfterRefusal, shown_state}}
use Rattle.pair_core.specs.laws.{Events.moved_to, Kept.{keeps_ack, keeps_on, risen-same}, Lines.named-more}

-- A CLIENT'S EVENT goes into the history, before what is kept: the guest stays as it is

module _ (w : Pair) (h : Holds w) (es : List Entry) (window : Window) (pending : List Epoch) (ports : PortsState)
    (cut : window.to_cut ≡ w.protocol.state.window.to_cut)
    (stays : window.to_commit ≡ w.protocol.state.window.to_commit)
    (guest : (at (shown_state w) es).guest ≡ (shown_state w).guest)
    (accords : Accords w.start (record w.protocol.state {
      journal = with_history w.protocol.state.journal es;
      window = window;
      pending = pending;
    }) ports)
    (sealed : h.accords.journal.sealed_moves ≡ accords.journal.sealed_moves)
    (running : h.accords.journal.running_moves ≡ accords.journal.running_moves)
    (kept : is_alone w.protocol.state.mode ≡ false → KeepsFrames (record w.protocol.state {
      journal = with_history w.protocol.state.journal es;
      window = window;
      pending = pending;
    }) ports w.nodes.image) where
  pub history_holds : Holds (record w {
    protocol = record w.protocol { state = record w.protocol.state { journal = with_history w.protocol.state.journal es; window = window; pending = pending } };
    ports = ports;
  })
  history_holds =
      let r = w.protocol.state in
      let same : (shown_state w).guest ≡ (at w.start (r.journal.history ++ es)).guest =
      sym guest ∙ sym (ap (λ (t : HistoryState). t.guest) (at-append w.start r.journal.history es)) in
      record {
        accords = accords;
        lines = named-more r w.protocol.lines h.lines window (omega arith) (omega arith);
        nodes =
            transport (λ i. AreNodes (is_alone r.mode) r.generation (sym stays i) (same i) (sealed i) (running i) w.nodes) h.nodes;
        kept = kept;
        still = h.still;
      }

module _ (w : Pair) (h : Holds w) where
  abbrev r : Record
  r = w.protocol.state

  -- the image keeps what it kept where no number of the ports changes
  keeps : (es : List Entry) (q : PortsState) → length q.boxes ≡ length w.ports.boxes → q.numbers ≡ w.ports.numbers
      → is_alone w.protocol.state.mode ≡ false → KeepsFrames (record w.protocol.state {
        journal = with_history w.protocol.state.journal es;
        window = w.protocol.state.window;
        pending = w.protocol.state.pending;
      }) q w.nodes.image
  keeps es q boxes numbers two =
      keeps_on r w.ports w.nodes.image (h.kept two) (record r { journal = with_history r.journal es; window = r.window; pending = r.pending }) q
      w.nodes.image refl refl (risen-same w.ports q boxes numbers) refl refl

  pub ack_holds : IsRecord w.protocol.state → AreNumbered w.protocol.state w.ports → length w.ports.numbers ≡ length w.ports.boxes → (n : ℕ)
      → n < w.protocol.state.window.to_commit
      → Holds (record w { protocol = record w.protocol { state = (ack_done w.ports.boxes w.protocol.state n).1 }; ports = ports_after_ack w.ports w.protocol.state n })
  ack_holds k numbered clients n below =
      let after = (ack_done w.ports.boxes w.protocol.state n).1 in
      history_holds w h (landings w.ports.boxes (let_go w.ports.boxes w.protocol.state n)) after.window after.pending
      (ports_after_ack w.ports w.protocol.state n) refl refl
      (ap (λ (t : HistoryState). t.guest) (ack_lands w.start r w.ports h.accords k n below).1)
      (ack_accords w.start r w.ports h.accords k n below) refl refl
      (λ two. keeps_ack r w.ports w.nodes.image (h.kept two) k numbered clients n below)

  module _ (c : ℕ) (low : 1 ≤ c) (high : c ≤ length w.ports.boxes) where
    pub take_holds : Holds (record w { protocol = record w.protocol { state = (take_done w.ports.boxes w.protocol.state c).1 }; ports = ports_after_take w.ports c })
    take_holds =
        history_holds w h (Took c (slice_get (list_of w.ports.boxes c) 0) ∷ []) r.window r.pending (ports_after_take w.ports c) refl refl refl
        (take_accords w.start r w.ports h.accords c low high) refl refl
        (keeps (Took c (slice_get (list_of w.ports.boxes c) 0) ∷ []) (ports_after_take w.ports c)
        (length-set w.ports.boxes (c - 1) (drop 1 (list_of w.ports.boxes c))) refl)

    pub lose_in_holds : (place n : ℕ) (f : Frame) → slice_get (list_of w.ports.inboxes c) place ≡ Some (n, f)
        → Holds (record w { protocol = record w.protocol { state = (loss_done w.protocol.state (DropIn n)).1 }; ports = ports_after_lose_in w.ports c place })
    lose_in_holds place n f there =
        history_holds w h (DropIn n ∷ []) r.window r.pending (ports_after_lose_in w.ports c place) refl refl refl
        (lose_in_accords w.start r w.ports h.accords c low high place n f there) refl refl
        (keeps (DropIn n ∷ []) (ports_after_lose_in w.ports c place) refl refl)

    pub lose_out_holds : (place : ℕ) → place < length (list_of w.ports.boxes c)
        → Holds (record w { protocol = record w.protocol { state = (loss_done w.protocol.state (DropOut c place)).1 }; ports = ports_after_lose_out w.ports c place })
    lose_out_holds place there =
        history_holds w h (DropOut c place ∷ []) r.window r.pending (ports_after_lose_out w.ports c place) refl refl refl
        (lose_out_accords w.start r w.ports h.accords c low high place there) refl refl
        (keeps (DropOut c place ∷ []) (ports_after_lose_out w.ports c place)
        (length-set w.ports.boxes (c - 1) (remove (list_of w.ports.boxes c) place)) refl)

    module _ (bytes : List ℕ) (frame : IsFrame (record { items = bytes })) where
      abbrev the_frame : Frame
      the_frame = record { items = bytes }

      pub deliver_holds : Holds (record w {
        protocol = record w.protocol { state = (deliver_done w.protocol.state c the_frame w.ports.next).1 };
        ports = after_delivery w.ports c bytes;
      })
      deliver_holds =
          history_holds w h (Delivered c the_frame w.ports.next ∷ []) r.window r.pending (after_delivery w.ports c bytes) refl refl refl
          (deliver_accords w.start r w.ports h.accords c low high bytes frame) refl refl
          (keeps (Delivered c the_frame w.ports.next ∷ []) (after_delivery w.ports c bytes) refl refl)

      pub full_holds : inbox_frames ≤ length (list_of w.ports.inboxes c)
          → Holds (record w { protocol = record w.protocol { state = record w.protocol.state { journal = with_history w.protocol.state.journal (Refused c the_frame ∷ []) } } })
      full_holds full =
          history_holds w h (Refused c the_frame ∷ []) r.window r.pending w.ports refl refl refl
          (full_accords w.start r w.ports h.accords c low high bytes frame full) refl refl (keeps (Refused c the_frame ∷ []) w.ports refl refl)

  -- A LOSS, where the frame was there or none was
  module _ (c place : ℕ) (is_there : Bool) (now : Record) (q : PortsState) where
    pub lost_in_holds :
        first_refusal (loss_refusals false (length w.ports.boxes) w.protocol.state c (lost_in (list_of w.ports.inboxes c) place)) ≡ None
        → (loss_reply is_there, now) ≡ loss_of w.protocol.state (lost_in (list_of w.ports.inboxes c) place)
        → q ≡ ports_if_lost is_there (ports_after_lose_in w.ports c place) w.ports
        → Holds (record w { protocol = record w.protocol { state = now }; ports = q })
    lost_in_holds free is ports = by_test is_there refl
      where
        by_test : (b : Bool) → is_there ≡ b → Holds (record w { protocol = record w.protocol { state = now }; ports = q })
        by_test true e =
            let lost = lost_waiting false r now (length w.ports.boxes) c place is_there (list_of w.ports.inboxes c) e free is in
            let after = ports_after_lose_in w.ports c place in
            moved_to w now (loss_done r (DropIn lost.0)).1 q after lost.3 (ports ∙ ap (λ b. ports_if_lost b after w.ports) e)
            (lose_in_holds c lost.4 lost.5 place lost.0 lost.1 lost.2)
        by_test false e =
            moved_to w now r q w.ports (lost_none r now is_there (lost_in (list_of w.ports.inboxes c) place) e is).1
            (ports ∙ ap (λ b. ports_if_lost b (ports_after_lose_in w.ports c place) w.ports) e) h

    pub lost_out_holds :
        first_refusal (loss_refusals false (length w.ports.boxes) w.protocol.state c (lost_out c (list_of w.ports.boxes c) place)) ≡ None
        → (loss_reply is_there, now) ≡ loss_of w.protocol.state (lost_out c (list_of w.ports.boxes c) place)
        → q ≡ ports_if_lost is_there (ports_after_lose_out w.ports c place) w.ports
        → Holds (record w { protocol = record w.protocol { state = now }; ports = q })
    lost_out_holds free is ports = by_test is_there refl
      where
        by_test : (b : Bool) → is_there ≡ b → Holds (record w { protocol = record w.protocol { state = now }; ports = q })
        by_test true e =
            let lost = lost_landed false r now (length w.ports.boxes) c place is_there (list_of w.ports.boxes c) e free is in
            let after = ports_after_lose_out w.ports c place in
            moved_to w now (loss_done r (DropOut c place)).1 q after lost.2 (ports ∙ ap (λ b. ports_if_lost b after w.ports) e)
            (lose_out_holds c lost.3 lost.4 place lost.1)
        by_test false e =
            moved_to w now r q w.ports (lost_none r now is_there (lost_out c (list_of w.ports.boxes c) place) e is).1
            (ports ∙ ap (λ b. ports_if_lost b (ports_after_lose_out w.ports c place) w.ports) e) h

  -- A DELIVERY THAT IS REFUSED: only a full inbox is told
  module _ (c : ℕ) (bytes : List ℕ) (now : Record) (q : PortsState) (ports : q ≡ w.ports) where
    pub refused_holds : (why : Refusal)
        → first_refusal (deliver_refusals false (length w.ports.boxes) (list_of w.ports.inboxes c) w.ports.next w.protocol.state c bytes) ≡ Some why
        → (replies.Refused why, now) ≡ delivery_refused w.protocol.state c (record { items = bytes }) why
        → Holds (record w { protocol = record w.protocol { state = now }; ports = q })
    refused_holds refusals.Full row is =
        let found = delivery_full false (length w.ports.boxes) (list_of w.ports.inboxes c) w.ports.next r c bytes row in
        moved_to w now (delivery_refused r c (record { items = bytes }) refusals.Full).1 q w.ports (ap (λ (o : Outcome). o.1) is) ports
        (full_holds c found.0 found.1 bytes found.2 found.4)
    refused_holds why row is = moved_to w now r q w.ports (ap (λ (o : Outcome). o.1) is) ports h

    pub after_refusal : (why : Refusal) → (replies.Refused why, now) ≡ delivery_refused w.protocol.state c (record { items = bytes }) why
        → AfterRefusal why w (record w { protocol = record w.protocol { state = now }; ports = q })
    after_refusal refusals.Full is = λ i. record w { protocol = record w.protocol { state = now }; ports = ports i }
    after_refusal why is = λ i. record w { protocol = record w.protocol { state = (ap (λ (o : Outcome). o.1) is) i }; ports = ports i }
