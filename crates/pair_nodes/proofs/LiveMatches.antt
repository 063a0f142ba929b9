-- Where the standby goes live, the pair's backup does.
use Rattle.std.proofs.Common.{◌≡◌, ℕ, ◌+◌, ◌-◌, ◌<◌, ◌≤◌, List, [], ◌∷◌, length, refl, sym, ap, ◌∙◌, subst, arith, false, inl, None, Some}
use Rattle.std.proofs.{Common.{cond}, lemmas.List.take_all}
use Rattle.failover.specs.declared.mode.{Mode.Mode, Mode.TheVariants.{Stopped}}
use Rattle.frame_ports.specs.{Limits.number_limit, Ports.PortsState}
use Rattle.output_gate.specs.{Epochs.{frames_of, frames_to}, Landings.ports_after}
use Rattle.output_gate.specs.laws.Ports.{boxes_count-after, numbers_count-after}
use Rattle.pair_history.specs.{Landings.landings}
use Rattle.pair_record.specs.declared.event.{Packet.Packet, Event.TheVariants.GoLive, Refusal.TheVariants.Exhausted}
use Rattle.pair_record.specs.{Kept.{all_frames, brought}, FailureActs.first_uncommitted}
use Rattle.pair_record.specs.{Modes.{is_alone, mode_refusal}, Protocol.{Record, Outcome, first_refusal, go_live_refusals, go_live_done, unless, shown_at}}
use Rattle.pair_record.specs.Protocol.{live_entries}
use Rattle.pair_record.specs.{Record.{AreNumbered, SuitsMode, owed_to, ports_after_live}, Window.{committed_count, committed_of, none_pending}}
use Rattle.pair_record.specs.laws.{Owed.brought_ports, Live.length-live, Records.live_record, Numbers.live_numbers}
use Rattle.std.proofs.{Math.Seq.drop-nil, lemmas.Bool.lt-leb}
use Rattle.pair_core.specs.{Kept.first_kept, Lines.packet, Nodes.gone_live, Pair.{Pair, shown_state}}
use Rattle.pair_core.specs.laws.{GoneLive.gone_live_holds, Kept.keeps_brings}
use Rattle.pair_core.specs.laws.Outcomes.{done_if_none_refuses}
use Rattle.pair_nodes.specs.Matching.{CanGoLive, Fits, HasRoom, Kept, Matches, IsServed, network_of, site_of, primary_of, standby_of}
use Rattle.frame_ports.specs.laws.Addresses.{targets_of-clients}
use Rattle.checkpoint_stream.specs.Readings.{begun}
use Rattle.pair_nodes.proofs.Coming.{fed-none}
use Rattle.pair_nodes.proofs.{Losses.{landings_lost, losses_served}, NameLaws.{names-new, one-generation}, Outs.live-frames}
use Rattle.pair_nodes.proofs.Then.{served_then}
use Rattle.pair_nodes.specs.Sides.{to_commit}
use Rattle.pair_nodes.specs.Networks.{Output, with_next}
use Rattle.pair_nodes.specs.Runs.{Premises, adds, copies}
use Rattle.pair_nodes.specs.Sites.{Site, Happens, goes_live, live_site}
use Rattle.std.proofs.Common.{◌++◌}
use Rattle.std.proofs.lemmas.List.{length-append}
use Rattle.frame_ports.specs.Addresses.{targets_of}
use Rattle.frame_ports.specs.laws.Addresses.{targets_of-append}
use Rattle.pair_history.specs.laws.Waits.{arrived-few}
use Rattle.pair_history.specs.laws.Landed.{all_frames-append}
use Rattle.pair_record.specs.laws.Owed.{all_frames-epochs}
use Rattle.pair_history.specs.laws.Landings.{length-landings}
use Rattle.pair_record.specs.{Journal.kept_entries, Kept.frames_by_epoch}
use Rattle.pair_nodes.proofs.{Bags.{at_site, at_most, matches_so, next_is, sent_on}, PairEvents.{in_mode, one_event}}

module _ (w : Pair) (kept texts : List (List ℕ)) (acks : List Packet) (out : Output) (came : List ℕ) (h : Fits w kept texts acks out came)
    (stopped : w.protocol.state.mode ≡ Stopped) (last : w.protocol.state.generation + 1 < number_limit)
    (enough : HasRoom w (adds (site_of w kept texts acks out came) goes_live)) where
  abbrev r : Record
  r = w.protocol.state

  two : is_alone w.protocol.state.mode ≡ false
  two = ap is_alone stopped

  some : 1 ≤ w.protocol.state.window.to_commit
  some = subst (λ (m : Mode). SuitsMode m w.protocol.state.window) stopped h.pair.record_is.suits

  -- the step count of the history's guest
  abbrev steps : ℕ
  steps = (shown_state w).guest.steps

  abbrev done : Outcome
  done = go_live_done w.ports.boxes (owed_to w.protocol.state w.ports) steps w.protocol.state

  abbrev v : Pair
  v = record w {
    protocol = record w.protocol {
      state = (go_live_done w.ports.boxes (owed_to w.protocol.state w.ports) (shown_state w).guest.steps w.protocol.state).1;
    };
    ports = ports_after_live w.ports w.protocol.state;
    nodes = gone_live w.nodes;
  }

  -- the image's frames land as what the gate held of committed checkpoints
  ports-are : ports_after w.ports (first_kept w.nodes.image) (all_frames w.nodes.image.kept) ≡ ports_after_live w.ports w.protocol.state
  ports-are =
      let k = h.pair.holds.kept two in
      let fs = all_frames w.nodes.image.kept in
      let first = first_kept w.nodes.image in
      let sent = k.sent in
      let few = k.numbers in
      let all : brought r first w.nodes.image.kept ≡ fs = take_all (first_uncommitted r - first) fs (omega arith) in
      ap (ports_after w.ports first) (sym all)
      ∙ brought_ports r w.ports h.pair.numbered first w.nodes.image.kept (keeps_brings r w.ports w.nodes.image k h.pair.numbered)

  live_kept : Kept v
  live_kept =
      let k = h.pair in
      let fs = all_frames w.nodes.image.kept in
      let first = first_kept w.nodes.image in
      let brings = keeps_brings r w.ports w.nodes.image (k.holds.kept two) k.numbered in
      let landed = landings w.ports.boxes (owed_to r w.ports) in
      record {
        holds = gone_live_holds w k.holds two some steps last;
        record_is = live_record r k.record_is landed steps;
        numbered =
            subst (λ (q : PortsState). AreNumbered done.1 q) (brought_ports r w.ports k.numbered first w.nodes.image.kept brings)
            (live_numbers r w.ports k.numbered landed steps first fs);
        clients =
            subst (λ (q : PortsState). length q.numbers ≡ length q.boxes) ports-are
            (numbers_count-after w.ports first fs ∙ k.clients ∙ sym (boxes_count-after w.ports first fs));
      }

  -- what lands is part of what the image keeps
  most : length (owed_to w.protocol.state w.ports) ≤ copies (site_of w kept texts acks out came) (all_frames w.nodes.image.kept)
  most =
      let k = h.pair.holds.kept two in
      let n = length w.ports.boxes in
      let fs = frames_of (committed_of r.window r.pending) in
      let all : all_frames w.nodes.image.kept ≡ all_frames k.older ++ fs =
      ap all_frames k.lists ∙ all_frames-append k.older (frames_by_epoch (committed_of r.window r.pending))
      ∙ ap (λ t. all_frames k.older ++ t) (all_frames-epochs (committed_of r.window r.pending)) in
      let parts = ap (λ gs. length (targets_of n gs)) all ∙ ap (λ ts. length ts) (targets_of-append n (all_frames k.older) fs)
      ∙ length-append (targets_of n (all_frames k.older)) (targets_of n fs) in
      omega arith

  counted : length (live_entries w.ports.boxes (owed_to w.protocol.state w.ports) w.protocol.state.journal)
      ≤ length (kept_entries w.protocol.state.journal) + copies (site_of w kept texts acks out came) (all_frames w.nodes.image.kept)
  counted =
      let j = r.journal in
      let landed = landings w.ports.boxes (owed_to r w.ports) in
      let all = length-live landed j in
      let few = arrived-few (kept_entries j) in
      let l = length-landings w.ports.boxes (owed_to r w.ports) in
      let m = most in
      omega arith

  room : CanGoLive w
  room =
      let c = counted in
      let a = length-append r.journal.history (kept_entries r.journal) in
      let e = enough in
      omega arith

  free : first_refusal (go_live_refusals w.ports.boxes (owed_to w.protocol.state w.ports) w.protocol.state) ≡ None
  free =
      let generation = lt-leb number_limit (r.generation + 1) last in
      let history = lt-leb number_limit _ room in
      λ i. cond (generation i) (Some Exhausted) (cond (history i) (Some Exhausted) None)

  -- what the protocol looks at is what the ports and the gate have
  seen : done ≡ unless w.protocol.state
      (go_live_refusals (shown_at w.start w.protocol.state).boxes (shown_at w.start w.protocol.state).out w.protocol.state)
      (go_live_done (shown_at w.start w.protocol.state).boxes (shown_at w.start w.protocol.state).out steps w.protocol.state)
  seen =
      let a = h.pair.holds.accords in
      done_if_none_refuses r (go_live_refusals w.ports.boxes (owed_to r w.ports) r) done free
      ∙ (λ i. unless r (go_live_refusals (a.clients.boxes i) (sym a.owed i) r) (go_live_done (a.clients.boxes i) (sym a.owed i) steps r))

  next-is : to_commit (standby_of w came) ≡ w.protocol.state.window.to_commit
  next-is = next_is w h.pair two

  live_fits : Fits v [] texts acks (with_next out (frames_to (w.protocol.state.window.to_commit - 1) w.protocol.state.pending)) []
  live_fits = record {
    pair = live_kept;
    count = refl;
    sealed = sym (drop-nil (committed_count (none_pending r.window.to_commit)));
    numbered = tt;
    sent = λ i t is.
        let s = h.sent i t is in
        let most = at_most r.generation r.window.to_cut w.protocol.lines.forward s.place (packet s.generation s.number)
        h.pair.holds.lines.forward s.sent in
        sent_on w v refl (λ m q e. e) t s (λ same low. absurd (omega arith));
    acked = h.acked;
    coming = inl refl;
    frames = live-frames w h.pair out h.frames (owed_to w.protocol.state w.ports) (committed_count (none_pending r.window.to_commit)) some;
    names =
        names-new w.nodes.image.shape r.generation r.window.to_acknowledge kept texts h.names (r.generation + 1) r.window.to_commit []
        (λ i n t is x low.
        let s = h.sent i t is in
        let same = one-generation w.nodes.image.shape s.generation s.number (r.generation + 1) n t s.is x in
        let most = at_most r.generation r.window.to_cut w.protocol.lines.forward s.place (packet s.generation s.number)
        h.pair.holds.lines.forward s.sent in
        omega arith);
  }

  -- the pair's lands what the gate held of committed checkpoints
  abbrev landed : Site
  landed = record (live_site (site_of w kept texts acks out came)) { network = network_of (ports_after_live w.ports w.protocol.state) }

  landed_served : IsServed w (copies (site_of w kept texts acks out came) (all_frames w.nodes.image.kept)) [] landed
  landed_served = record {
    events = GoLive ∷ [];
    replies = done.0 ∷ [];
    after = v;
    start = refl;
    run =
        let none : mode_refusal w.protocol.state.mode GoLive ≡ None = ap (λ m. mode_refusal m GoLive) stopped in
        one_event w v GoLive done.0 h.pair live_kept refl (inl (in_mode w GoLive None done none seen), refl);
    matches =
        matches_so landed v [] texts acks (with_next out (frames_to (w.protocol.state.window.to_commit - 1) w.protocol.state.pending)) []
        (λ i. record (site_of v [] texts acks (with_next out (frames_to (w.protocol.state.window.to_commit - 1) w.protocol.state.pending)) []) {
          standby = record (standby_of v []) { reading = sym (fed-none (begun w.nodes.image.shape 0)) i };
          out = with_next out (frames_to (next-is i - 1) w.protocol.state.pending);
          primary = record (primary_of v []) { to_cut = next-is i; next_frame = (h.pair.holds.kept two).sent i };
        })
        live_fits;
    counts =
        let j = r.journal in
        let es = live_entries w.ports.boxes (owed_to r w.ports) j in
        let c = counted in
        let a = length-append j.history (kept_entries j) in
        let b = length-append j.history es in
        let d = length-append (j.history ++ es) [] in
        omega arith;
    told = refl;
  }

  -- and that is lost
  pub live_served : IsServed w (adds (site_of w kept texts acks out came) goes_live) [] (live_site (site_of w kept texts acks out came))
  live_served =
      let n = copies (site_of w kept texts acks out came) (all_frames w.nodes.image.kept) in
      let owed = owed_to w.protocol.state w.ports in
      let lost = landings_lost owed w.ports.boxes (targets_of-clients (length w.ports.boxes) _) landed refl in
      let few = lost.few in
      let m = most in
      let e = enough in
      let a = landed_served in
      let counts = a.counts in
      let b = losses_served lost.losses landed (live_site (site_of w kept texts acks out came)) a.after a.matches (omega arith) lost.lead in
      let c = served_then w n (length lost.losses) [] [] landed (live_site (site_of w kept texts acks out came)) a b in
      let all = c.counts in
      record {
        events = c.events;
        replies = c.replies;
        after = c.after;
        start = c.start;
        run = c.run;
        matches = c.matches;
        counts = omega arith;
        told = c.told;
      }

pub live_matches : (s t : Site) (w : Pair) (most : ℕ) → Matches s w → HasRoom w (adds s goes_live) → Premises s goes_live most
    → Happens s goes_live t → IsServed w (adds s goes_live) [] t
live_matches s t w most m room fair happens =
    at_site s t w goes_live most m room fair happens (λ kept texts acks out came h fits fair x.
    let last = x.0 in rw x.1 (live_served w kept texts acks out came h fair.fencing (omega arith) fits))
