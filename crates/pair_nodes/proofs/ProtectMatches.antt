-- A new standby, and one that has stopped.
use Rattle.std.proofs.Common.{◌≡◌, ℕ, ◌+◌, ◌<◌, ◌≤◌, List, [], ◌∷◌, ◌++◌, length, refl, sym, ap, ◌∙◌, subst, arith, true, false, inl, None, Some}
use Rattle.std.proofs.{Common.{Bool, cond}, lemmas.List.length-replicate}
use Rattle.failover.specs.declared.mode.{Mode.TheVariants.{Alone}}
use Rattle.frame_ports.specs.{Limits.number_limit, Numbers.renumbered, Ports.PortsState}
use Rattle.output_gate.specs.{Epochs.frames_of, Landings.ports_after}
use Rattle.output_gate.specs.laws.Ports.{boxes_count-after, numbers_count-after}
use Rattle.pair_record.specs.declared.event.{Packet.Packet, Event.TheVariants.{FailBackup, Protect}, Refusal.TheVariants.Exhausted}
use Rattle.pair_record.specs.{Modes.{is_alone, is_stopped, mode_refusal}, Record.{first_held, ports_after_all}, Window.{committed_count, none_pending}}
use Rattle.pair_record.specs.Protocol.{Outcome, first_refusal, all_held, fail_backup_refusals, fail_backup_done, protect_refusals, protect_done}
use Rattle.pair_record.specs.laws.{Records.failure_record, Numbers.{failure_numbers, landed_ports, protect_numbers}}
use Rattle.std.proofs.Math.Seq.{drop-nil}
use Rattle.pair_record.specs.laws.Records.{protect_record}
use Rattle.std.proofs.lemmas.Bool.{lt-leb}
use Rattle.pair_core.specs.{Lines.packet, Nodes.{left_alone, with_protected}, Pair.Pair}
use Rattle.pair_core.specs.laws.{AllLands.all_landed_holds, Consistent.{keeps_nothing, some_cut}, Lines.below_at}
use Rattle.pair_core.specs.laws.Outcomes.{done_if_none_refuses, done_by_table, fail_backup_by_table}
use Rattle.pair_core.specs.laws.Protected.{protect_holds}
use Rattle.pair_nodes.specs.Matching.{Fits, HasRoom, Kept, Matches, IsServed, held_of, sent_of, site_of, primary_of, standby_of}
use Rattle.checkpoint_stream.specs.Readings.{begun}
use Rattle.pair_nodes.proofs.Coming.{fed-none}
use Rattle.pair_nodes.specs.Sides.{IsFull}
use Rattle.pair_nodes.specs.Networks.{Output, with_out}
use Rattle.pair_nodes.specs.Runs.{Premises, adds}
use Rattle.pair_nodes.specs.Sites.{Site, Happens, protects, goes_alone, protect_site, alone_site}
use Rattle.pair_history.specs.Landings.{landings}
use Rattle.pair_history.specs.laws.Landings.{length-landings}
use Rattle.pair_nodes.proofs.Counts.{entered_counts, protect_counts, same-count}
use Rattle.pair_nodes.proofs.{NameLaws.{names-new, one-generation, one-number}, Outs.{alone-frames, none-held, same-out}}
use Rattle.pair_nodes.proofs.{Bags.{at_site, at_most, has-none, has-standby, matches_so, sent_on}, PairEvents.{both_fail, in_mode, one_event}, Series.numbered}

-- PROTECT
module _ (w : Pair) (kept texts : List (List ℕ)) (acks : List Packet) (out : Output) (came : List ℕ) (h : Fits w kept texts acks out came) (alone : w.protocol.state.mode ≡ Alone)
    (last : w.protocol.state.generation + 1 < number_limit) (text : List ℕ) (is_full : IsFull (primary_of w kept) text) where
  lone : is_alone w.protocol.state.mode ≡ true
  lone = ap is_alone alone

  abbrev backed : Pair
  backed = record w {
    protocol = record w.protocol { state = (protect_done w.protocol.state).1 };
    ports = renumbered w.ports;
    nodes = with_protected w.nodes text;
  }

  protect_kept : Kept backed
  protect_kept =
      let k = h.pair in
      record {
        holds = protect_holds w k.holds (keeps_nothing w k.holds k.record_is lone) last text is_full;
        record_is = protect_record w.protocol.state k.record_is lone;
        numbered = protect_numbers w.protocol.state w.ports;
        clients = length-replicate (length w.ports.boxes) 0;
      }

  protect_fits : Fits backed (text ∷ []) texts acks out []
  protect_fits =
      let r = w.protocol.state in
      record {
        pair = protect_kept;
        count = refl;
        sealed = refl;
        numbered = (
          numbered w.nodes.image.shape (r.generation + 1) 0 w.nodes.live.guest w.nodes.live.guest [] text
              (is_full w.nodes.live.guest h.pair.holds.nodes.shape),
          tt,
        );
        sent = λ i t is.
            let s = h.sent i t is in
            let most = at_most r.generation r.window.to_cut w.protocol.lines.forward s.place (packet s.generation s.number)
            h.pair.holds.lines.forward s.sent in
            sent_on w backed refl (λ m q e. e) t s (λ same low. absurd (omega arith));
        acked = h.acked;
        coming = inl refl;
        frames = same-out out (held_of w) (sent_of w) _ _ h.frames (sym (none-held w (keeps_nothing w h.pair.holds h.pair.record_is lone))) refl;
        names =
            names-new w.nodes.image.shape r.generation r.window.to_acknowledge kept texts h.names (r.generation + 1) 0 (text ∷ [])
            (λ i n t is x low.
            let s = h.sent i t is in
            let same = one-generation w.nodes.image.shape s.generation s.number (r.generation + 1) n t s.is x in
            let most = at_most r.generation r.window.to_cut w.protocol.lines.forward s.place (packet s.generation s.number)
            h.pair.holds.lines.forward s.sent in
            omega arith);
      }

  pub protect_served : IsServed w 0 [] (protect_site (site_of w kept texts acks out came) text)
  protect_served =
      let r = w.protocol.state in
      let done = protect_done r in
      record {
        events = Protect ∷ [];
        replies = done.0 ∷ [];
        after = backed;
        start = refl;
        run =
            let none : mode_refusal r.mode Protect ≡ None = ap (λ m. mode_refusal m Protect) alone in
            let free : first_refusal (protect_refusals r) ≡ None =
            ap (λ (t : Bool). cond t (Some Exhausted) None) (lt-leb number_limit (r.generation + 1) last) in
            one_event w backed Protect done.0 h.pair protect_kept refl
            (inl (in_mode w Protect None done none (done_if_none_refuses r (protect_refusals r) done free)), refl);
        matches = matches_so (protect_site (site_of w kept texts acks out came) text) backed (text ∷ []) texts acks out []
            (λ i. record (protect_site (site_of w kept texts acks out came) text) {
              standby = record (standby_of backed []) { reading = sym (fed-none (begun w.nodes.image.shape 0)) i };
            }) protect_fits;
        counts = same-count (protect_counts r.journal);
        told = refl;
      }

pub protect_matches : (s t : Site) (w : Pair) (text : List ℕ) (most : ℕ) → Matches s w → HasRoom w 0 → Premises s (protects text) most
    → Happens s (protects text) t → IsServed w 0 [] t
protect_matches s t w text most m room fair happens =
    at_site s t w (protects text) most m room fair happens (λ kept texts acks out came h fits fair x.
    let last = x.1 in rw x.3 (protect_served w kept texts acks out came h (has-none w.protocol.state.mode x.0) (omega arith) text x.2))

-- ALONE
module _ (w : Pair) (kept texts : List (List ℕ)) (acks : List Packet) (out : Output) (came : List ℕ) (h : Fits w kept texts acks out came)
    (runs : is_stopped w.protocol.state.mode ≡ false) (two : is_alone w.protocol.state.mode ≡ false)
    (few : length w.nodes.live.outbox ≤ 256) (room : HasRoom w (length (all_held w.ports.boxes w.nodes.live.outbox w.protocol.state))) where
  abbrev done : Outcome
  done = fail_backup_done w.ports.boxes w.nodes.live.outbox w.protocol.state

  abbrev left : Pair
  left = record w {
    protocol = record w.protocol { state = (fail_backup_done w.ports.boxes w.nodes.live.outbox w.protocol.state).1 };
    ports = ports_after_all w.ports w.nodes.live.outbox w.protocol.state;
    nodes = left_alone w.nodes;
  }

  ports-are : ports_after w.ports (first_held w.protocol.state) (frames_of w.protocol.state.pending ++ w.nodes.live.outbox) ≡ left.ports
  ports-are = landed_ports w.protocol.state w.ports h.pair.numbered (frames_of w.protocol.state.pending ++ w.nodes.live.outbox)

  alone_kept : Kept left
  alone_kept =
      let k = h.pair in
      let r = w.protocol.state in
      let outbox = w.nodes.live.outbox in
      let fs = frames_of r.pending ++ outbox in
      let first = first_held r in
      let cut = k.record_is.window.cut in
      let left_now = k.numbered.left_in_pair two (some_cut w k.holds k.record_is two) in
      record {
        holds = all_landed_holds w (k.holds.accords, k.holds.nodes, k.holds.lines, k.holds.kept) Alone refl (none_pending r.window.to_cut)
            (left_alone w.nodes) refl refl (omega arith) (omega arith);
        record_is = failure_record r k.record_is r.journal.running [] w.ports.boxes outbox;
        numbered = failure_numbers r w.ports k.numbered r.journal.running [] outbox (omega arith);
        clients =
            subst (λ (q : PortsState). length q.numbers ≡ length q.boxes) ports-are
            (numbers_count-after w.ports first fs ∙ k.clients ∙ sym (boxes_count-after w.ports first fs));
      }

  alone_fits : Fits left [] texts acks (with_out out (frames_of w.protocol.state.pending ++ w.nodes.live.outbox)) []
  alone_fits =
      let r = w.protocol.state in
      record {
        pair = alone_kept;
        count = refl;
        sealed = sym (drop-nil (committed_count (none_pending r.window.to_cut)));
        numbered = tt;
        sent = λ i t is.
            let s = h.sent i t is in
            sent_on w left refl (λ m q e. e) t s (λ same low.
            let below = below_at r.generation r.window.to_cut w.protocol.lines.forward s.place (Some (packet s.generation s.number))
            h.pair.holds.lines.forward (sym s.sent) same in
            absurd (omega arith));
        acked = h.acked;
        coming = inl refl;
        frames = alone-frames w h.pair out h.frames (all_held w.ports.boxes w.nodes.live.outbox r) (committed_count (none_pending r.window.to_cut));
        names =
            names-new w.nodes.image.shape r.generation r.window.to_acknowledge kept texts h.names r.generation r.window.to_cut []
            (λ i n t is x low.
            let s = h.sent i t is in
            let same = one-generation w.nodes.image.shape s.generation s.number r.generation n t s.is x in
            let number = one-number w.nodes.image.shape s.generation s.number r.generation n t s.is x in
            let below = below_at r.generation r.window.to_cut w.protocol.lines.forward s.place (Some (packet s.generation s.number))
            h.pair.holds.lines.forward (sym s.sent) same in
            omega arith);
      }

  pub alone_served : IsServed w (length (all_held w.ports.boxes w.nodes.live.outbox w.protocol.state)) [] (alone_site (site_of w kept texts acks out came))
  alone_served =
      let r = w.protocol.state in
      let outbox = w.nodes.live.outbox in
      record {
        events = FailBackup ∷ [];
        replies = done.0 ∷ [];
        after = left;
        start = refl;
        run =
            let free : first_refusal (fail_backup_refusals w.ports.boxes outbox r) ≡ None =
            ap (λ (t : Bool). cond t (Some Exhausted) None) (lt-leb number_limit _ room) in
            one_event w left FailBackup done.0 h.pair alone_kept refl (
              inl (in_mode w FailBackup None done (both_fail r.mode runs two) (done_by_table (fail_backup_by_table w h.pair.holds) free)),
              refl,
            );
        matches = matches_so (alone_site (site_of w kept texts acks out came)) left [] texts acks
            (with_out out (frames_of w.protocol.state.pending ++ w.nodes.live.outbox)) []
            (λ i. record (alone_site (site_of w kept texts acks out came)) {
              standby = record (standby_of left []) { reading = sym (fed-none (begun w.nodes.image.shape 0)) i };
            }) alone_fits;
        counts =
            let c = entered_counts r.journal (landings w.ports.boxes (all_held w.ports.boxes outbox r)) in
            let l = length-landings w.ports.boxes (all_held w.ports.boxes outbox r) in
            omega arith;
        told = refl;
      }

pub alone_matches : (s t : Site) (w : Pair) (most : ℕ) → Matches s w → HasRoom w (adds s goes_alone) → Premises s goes_alone most
    → Happens s goes_alone t → IsServed w (adds s goes_alone) [] t
alone_matches s t w most m room fair happens =
    at_site s t w goes_alone most m room fair happens (λ kept texts acks out came h fits fair x.
    rw x.2 (alone_served w kept texts acks out came h fair.fencing (has-standby (is_alone w.protocol.state.mode) x.0) x.1 fits))
