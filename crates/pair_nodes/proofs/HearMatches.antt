-- An acknowledgement at the primary is one of the pair: what it lets out lands.
use Rattle.std.proofs.Common.{◌≡◌, ℕ, ◌+◌, ◌-◌, ◌<◌, ◌≤◌, List, [], ◌∷◌, length, drop, refl, sym, ap, ◌∙◌, subst, arith, false, cond}
use Rattle.std.proofs.{Common.{None, Some, inl, Bool}, lemmas.List.{drop-drop, length-append, length-drop}}
use Rattle.std.specs.Prelude.{slice_get}
use Rattle.frame_ports.specs.{Limits.number_limit, Ports.PortsState}
use Rattle.output_gate.specs.{Epochs.{Epoch, after_number, frames_to}, Landings.ports_after}
use Rattle.output_gate.specs.laws.Ports.{boxes_count-after, numbers_count-after}
use Rattle.pair_record.specs.declared.event.{Packet.Packet, Event.TheVariants.AckGet, Refusal.TheVariants.Exhausted}
use Rattle.pair_record.specs.Modes.{is_alone, is_stopped}
use Rattle.pair_record.specs.Protocol.{Record, first_refusal, ack_refusals, ack_done, ack_outcome, let_go}
use Rattle.pair_record.specs.Record.{ports_after_ack, first_held}
use Rattle.pair_record.specs.Window.{committed_count, committed_of, uncommitted_of, with_acknowledged, first_after}
use Rattle.pair_record.specs.laws.{Numbers.{ack_numbers, landed_ports}, Records.ack_record, Tables.ack_row}
use Rattle.pair_record.specs.laws.Windows.{leaves, left_over, within}
use Rattle.std.proofs.lemmas.Bool.{lt-leb}
use Rattle.std.proofs.lemmas.List.{length-take-le, take-append-drop}
use Rattle.pair_core.specs.{Pair.{Pair, shown_state}}
use Rattle.pair_core.specs.laws.{ClientEvents.ack_holds, Lines.below_at}
use Rattle.pair_core.specs.laws.Outcomes.{done_if_none_refuses}
use Rattle.pair_nodes.specs.Matching.{AreNumberedFrom, HaveNames, Fits, Kept, Matches, IsServed, HasRoom, site_of, WasAcknowledged}
use Rattle.pair_nodes.specs.Networks.{Output, with_out}
use Rattle.pair_nodes.specs.Runs.{Premises, adds}
use Rattle.pair_nodes.specs.Sites.{Site, Happens, hears, hear_site}
use Rattle.pair_history.specs.Landings.{landings}
use Rattle.pair_history.specs.laws.Landings.{length-landings}
use Rattle.pair_nodes.proofs.Counts.{history_counts, targets-part}
use Rattle.pair_nodes.proofs.{NameLaws.names-gone, Outs.hear-frames}
use Rattle.pair_nodes.proofs.{Bags.{at_site, has-standby, matches_so, sent_on}, PairEvents.{both_go, in_mode, one_event}, Series.series-drop}

module _ (w : Pair) (kept texts : List (List ℕ)) (acks : List Packet) (out : Output) (came : List ℕ) (h : Fits w kept texts acks out came)
    (runs : is_stopped w.protocol.state.mode ≡ false) (two : is_alone w.protocol.state.mode ≡ false)
    (j : ℕ) (p : Packet) (there : slice_get acks j ≡ Some p) (same : p.generation ≡ w.protocol.state.generation)
    (enough : HasRoom w (adds (site_of w kept texts acks out came) (hears p))) where
  most : length (let_go w.ports.boxes w.protocol.state p.number) ≤ adds (site_of w kept texts acks out came) (hears p)
  most = targets-part (length w.ports.boxes) p.number w.protocol.state.pending

  room : HasRoom w (length (let_go w.ports.boxes w.protocol.state p.number))
  room = let m = most in let e = enough in omega arith

  abbrev r : Record
  r = w.protocol.state

  abbrev k : Kept w
  k = h.pair

  was : WasAcknowledged w p
  was = h.acked j p there

  below : p.number < w.protocol.state.window.to_commit
  below =
      below_at r.generation r.window.to_commit w.protocol.lines.back was.0 (Some p) k.holds.lines.back (sym was.1) same

  abbrev v : Pair
  v = record w {
    protocol = record w.protocol { state = (ack_done w.ports.boxes w.protocol.state p.number).1 };
    ports = ports_after_ack w.ports w.protocol.state p.number;
  }

  ports-are : ports_after w.ports (first_held w.protocol.state) (frames_to p.number w.protocol.state.pending) ≡ v.ports
  ports-are = landed_ports r w.ports k.numbered (frames_to p.number r.pending)

  hear_kept : Kept v
  hear_kept =
      let first = first_held r in
      let fs = frames_to p.number r.pending in
      record {
        holds = ack_holds w k.holds k.record_is k.numbered k.clients p.number below;
        record_is = ack_record r k.record_is w.ports.boxes p.number below;
        numbered = ack_numbers r w.ports k.numbered p.number;
        clients =
            subst (λ (q : PortsState). length q.numbers ≡ length q.boxes) ports-are
            (numbers_count-after w.ports first fs ∙ k.clients ∙ sym (boxes_count-after w.ports first fs));
      }

  free : first_refusal (ack_refusals w.ports.boxes w.protocol.state p) ≡ None
  free =
      let more = length (let_go w.ports.boxes r p.number) in
      ack_row w.ports.boxes r p same ∙ ap (λ (t : Bool). cond t (Some Exhausted) None) (lt-leb number_limit _ room)

  abbrev left : List Epoch
  left = after_number p.number w.protocol.state.pending

  -- how many texts are let go of
  abbrev gone : ℕ
  gone = length w.protocol.state.pending - length left

  -- those of committed checkpoints, as far as the window moves
  record Counts : Type 0 where
    pub count : gone + committed_count (with_acknowledged p.number w.protocol.state.window) ≡ committed_count w.protocol.state.window
    pub place : w.protocol.state.window.to_acknowledge + gone ≡ first_after p.number w.protocol.state.window.to_acknowledge
    pub few : length left ≤ length w.protocol.state.pending

  counts : Counts
  counts =
      let x = k.record_is.window in
      let l = leaves r.window r.pending x p.number below in
      let whole = ap (λ (es : List Epoch). length es) (take-append-drop (committed_count r.window) r.pending) in
      let parts = length-append (committed_of r.window r.pending) (uncommitted_of r.window r.pending) in
      let long = length-take-le (committed_count r.window) r.pending (within r.window r.pending x) in
      let split = ap (λ (es : List Epoch). length es) l.split in
      let lengths = length-append l.gone l.stay in
      let over = ap (λ (es : List Epoch). length es) (left_over r.window r.pending x p.number below) in
      let overs = length-append l.stay (uncommitted_of r.window r.pending) in
      let stays = l.count in
      let committed = x.committed in
      record { count = omega arith; place = omega arith; few = omega arith }

  hear_fits : Fits v (drop gone kept) texts acks (with_out out (frames_to p.number w.protocol.state.pending)) came
  hear_fits =
      let c = counts in
      let long = h.count in
      record {
        pair = hear_kept;
        count = let few = c.few in length-drop gone kept ∙ omega arith;
        sealed =
            h.sealed ∙ ap (λ n. drop n kept) (sym c.count)
            ∙ sym (drop-drop (committed_count (with_acknowledged p.number r.window)) gone kept);
        numbered =
            subst (λ n. AreNumberedFrom w.nodes.image.shape r.generation n (drop gone kept)) c.place
            (series-drop w.nodes.image.shape r.generation r.window.to_acknowledge gone kept h.numbered);
        sent = λ i t is. let s = h.sent i t is in sent_on w v refl (λ m q e. e) t s s.next;
        acked = h.acked;
        coming = h.coming;
        frames = hear-frames w h.pair p.number below out h.frames (let_go w.ports.boxes w.protocol.state p.number);
        names =
            subst (λ n. HaveNames w.nodes.image.shape r.generation n (drop gone kept) texts) c.place
            (names-gone w.nodes.image.shape r.generation r.window.to_acknowledge kept texts h.names gone);
      }

  pub hear_served : IsServed w (adds (site_of w kept texts acks out came) (hears p)) [] (hear_site (site_of w kept texts acks out came) p.number)
  hear_served =
      let done = ack_done w.ports.boxes r p.number in
      record {
        events = AckGet was.0 ∷ [];
        replies = done.0 ∷ [];
        after = v;
        start = refl;
        run =
            one_event w v (AckGet was.0) done.0 k hear_kept refl (
              inl (in_mode w (AckGet was.0) (slice_get w.protocol.lines.back was.0) done (both_go r.mode runs two)
                  (done_if_none_refuses r (ack_refusals w.ports.boxes r p) done free
                  ∙ ap (λ b. ack_outcome b r (Some p)) k.holds.accords.clients.boxes
                  ∙ ap (ack_outcome (shown_state w).boxes r) (sym was.1))),
              refl,
            );
        matches = matches_so (hear_site (site_of w kept texts acks out came) p.number) v (drop gone kept) texts acks
            (with_out out (frames_to p.number w.protocol.state.pending)) came refl hear_fits;
        counts =
            let m = most in
            let c = history_counts r.journal (landings w.ports.boxes (let_go w.ports.boxes r p.number)) in
            let l = length-landings w.ports.boxes (let_go w.ports.boxes r p.number) in
            omega arith;
        told = refl;
      }

pub hear_matches : (s t : Site) (w : Pair) (p : Packet) (most : ℕ) → Matches s w → HasRoom w (adds s (hears p)) → Premises s (hears p) most
    → Happens s (hears p) t → IsServed w (adds s (hears p)) [] t
hear_matches s t w p most m room fair happens =
    at_site s t w (hears p) most m room fair happens (λ kept texts acks out came h fits fair x.
    rw x.2 (hear_served w kept texts acks out came h fair.fencing (has-standby (is_alone w.protocol.state.mode) x.0) fair.unaltered.0 p
    fair.unaltered.1 x.1 fits))
