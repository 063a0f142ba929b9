-- The steps of a primary that is alone are those of the pair, and what each of them sends lands at once.
use Rattle.std.proofs.Common.{◌≡◌, ℕ, zero, suc, ◌+◌, ◌-◌, ◌≤◌, List, [], ◌++◌, length, replicate, refl, sym, ap, ◌∙◌, subst, arith, true, false, inl}
use Rattle.std.proofs.Common.{append_assoc}
use Rattle.std.proofs.lemmas.Bool.Decides.{nat_tests}
use Rattle.std.proofs.lemmas.List.{append-nil, length-append, length-replicate}
use Rattle.failover.specs.declared.mode.{Mode.TheVariants.Alone}
use Rattle.frame_ports.specs.{Addresses.targets_of, Lands.lands, Ports.PortsState}
use Rattle.frame_ports.specs.laws.Addresses.{targets_of-append}
use Rattle.frame_ports.specs.laws.Lands.{lands-append, length-lands}
use Rattle.guest_rules.specs.{Guest.Guest, Runs.{after_steps, sent_in, marked_in, HaveRoom}, Step.{next, sent}}
use Rattle.guest_rules.specs.laws.Sent.{few_sent}
use Rattle.output_gate.specs.Landings.{ports_after}
use Rattle.output_gate.specs.laws.Ports.{boxes_count-after, numbers_count-after}
use Rattle.pair_history.specs.Entries.{Frame, Ran}
use Rattle.pair_history.specs.Landings.{landings}
use Rattle.pair_record.specs.declared.event.{Packet.Packet, Event.TheVariants.Step}
use Rattle.pair_record.specs.{Limits.last_frame, Modes.is_alone, Record.ports_landed, Tables.frames_run_out}
use Rattle.pair_record.specs.laws.Numbers.{first_lone}
use Rattle.pair_history.specs.laws.Landings.{length-landings}
use Rattle.pair_record.specs.laws.Numbers.{landed_ports, lone_numbers}
use Rattle.pair_record.specs.laws.Records.{history_record}
use Rattle.pair_core.specs.{Pair.Pair, Invariant.KeepsNothing}
use Rattle.pair_core.specs.laws.LoneSteps.{after_lone_steps, lone_steps_hold, lone_steps_answered}
use Rattle.pair_core.specs.laws.Consistent.{alone_is, keeps_nothing}
use Rattle.pair_nodes.specs.Matching.{Fits, HasRoom, Kept, Matches, IsServed, site_of}
use Rattle.pair_nodes.specs.Networks.{Network, Output, with_frames, with_out}
use Rattle.pair_nodes.specs.Runs.{Premises, adds, copies}
use Rattle.pair_nodes.specs.Sites.{Site, Happens, lone_steps, lone_site}
use Rattle.pair_nodes.specs.Sides.{after_lone_run}
use Rattle.pair_nodes.proofs.{Counts.{history_counts, no_calls}, Outs.lone-frames, StepMatches.{all_made, steps_served}, Then.{nothing_served, served_then}}
use Rattle.pair_nodes.proofs.Bags.{has-none, matches_so, sent_on}

none-yet : (g : Guest) → sent_in (1 - 1) g ≡ []
unfolding sent_in
none-yet g = refl

-- ONE STEP
module _ (w : Pair) (kept texts : List (List ℕ)) (acks : List Packet) (out : Output) (came : List ℕ) (h : Fits w kept texts acks out came)
    (room : HasRoom w (1 + 1024)) (alone : w.protocol.state.mode ≡ Alone) (few : length (sent_in 1 w.nodes.live.guest) ≤ 256)
    (numbers : w.protocol.state.next_frame ≤ last_frame) where
  lone : is_alone w.protocol.state.mode ≡ true
  lone = ap is_alone alone

  nothing : KeepsNothing w.protocol.state
  nothing = keeps_nothing w h.pair.holds h.pair.record_is lone

  abbrev fs : List Frame
  fs = sent_in 1 w.nodes.live.guest

  abbrev v : Pair
  v = after_lone_steps w 1 (sent_in 1 w.nodes.live.guest)

  numbers_left : frames_run_out w.protocol.state ≡ false
  numbers_left = grind (arith, nat_tests, numbers)

  ports-are : ports_after w.ports w.protocol.state.next_frame (sent_in 1 w.nodes.live.guest) ≡ v.ports
  ports-are =
      let r = w.protocol.state in
      subst (λ (first : ℕ). ports_after w.ports first fs ≡ ports_landed w.ports first fs) (first_lone r nothing.2)
      (landed_ports r w.ports h.pair.numbered fs)

  lone_kept : Kept v
  lone_kept =
      let k = h.pair in
      let r = w.protocol.state in
      let first = r.next_frame in
      record {
        holds = lone_steps_hold w k.holds nothing lone 1;
        record_is =
            history_record r k.record_is (replicate 1 Ran ++ landings w.ports.boxes (targets_of (length w.ports.boxes) fs)) (r.next_frame + length fs);
        numbered = lone_numbers r w.ports k.numbered v.protocol.state.journal fs few numbers_left nothing.2;
        clients =
            subst (λ (q : PortsState). length q.numbers ≡ length q.boxes) ports-are
            (numbers_count-after w.ports first fs ∙ k.clients ∙ sym (boxes_count-after w.ports first fs));
      }

  lone_fits : Fits v kept texts acks (with_out out (sent_in 1 w.nodes.live.guest)) came
  lone_fits = record {
    pair = lone_kept;
    count = h.count;
    sealed = h.sealed;
    numbered = h.numbered;
    sent = λ i t is. let s = h.sent i t is in sent_on w v refl (λ m q e. e) t s s.next;
    acked = h.acked;
    coming = h.coming;
    frames = lone-frames w h.pair nothing out h.frames 1 (targets_of (length w.ports.boxes) fs);
    names = h.names;
  }

  pub step_served : IsServed w (1 + copies (site_of w kept texts acks out came) (sent_in 1 w.nodes.live.guest)) []
      (lone_site 1 (site_of w kept texts acks out came))
  step_served =
      let answer = inl (lone_steps_answered w h.pair.holds nothing lone 1 (none-yet w.nodes.live.guest) room numbers_left) in
      let k = (after_steps 1 w.nodes.live.guest).steps in
      record {
        events = replicate (length (all_made w v h.pair lone_kept refl 1 k answer).made) Step;
        replies = (all_made w v h.pair lone_kept refl 1 k answer).made;
        after = v;
        start = refl;
        run = steps_served w v h.pair lone_kept refl 1 k answer;
        matches =
            matches_so (lone_site 1 (site_of w kept texts acks out came)) v kept texts acks (with_out out (sent_in 1 w.nodes.live.guest)) came refl
            lone_fits;
        counts =
            let ts = targets_of (length w.ports.boxes) fs in
            let c = history_counts w.protocol.state.journal (replicate 1 Ran ++ landings w.ports.boxes ts) in
            let a = length-append (replicate 1 Ran) (landings w.ports.boxes ts) in
            let l = length-landings w.ports.boxes ts in
            let m = length-replicate 1 Ran in
            omega arith;
        told = no_calls (length (all_made w v h.pair lone_kept refl 1 k answer).made) (all_made w v h.pair lone_kept refl 1 k answer).made;
      }

-- ONE STEP, AND THEN MORE

frames-then : (n : Network) (fs gs : List Frame) → with_frames (with_frames n fs) gs ≡ with_frames n (fs ++ gs)
frames-then n fs gs =
    let count = length n.boxes in
    let long : length (with_frames n fs).boxes ≡ count = length-lands n.boxes (targets_of count fs) in
    ap (λ k. record n { boxes = lands (with_frames n fs).boxes (targets_of k gs) }) long
    ∙ ap (λ bs. record n { boxes = bs }) (sym (lands-append n.boxes (targets_of count fs) (targets_of count gs))
    ∙ ap (lands n.boxes) (sym (targets_of-append count fs gs)))

out-then : (o : Output) (fs gs : List Frame) → with_out (with_out o fs) gs ≡ with_out o (fs ++ gs)
out-then o fs gs = ap (λ now. record o { now = now }) (append_assoc o.now fs gs)

copies-then : (s : Site) (fs gs : List Frame) → copies s fs + copies (lone_site 1 s) gs ≡ copies s (fs ++ gs)
copies-then s fs gs =
    let count = length s.network.boxes in
    let long : length (lone_site 1 s).network.boxes ≡ count =
    length-lands s.network.boxes (targets_of count (sent_in 1 s.primary.live.guest)) in
    ap (λ k. copies s fs + length (targets_of k gs)) long ∙ sym (length-append (targets_of count fs) (targets_of count gs))
    ∙ ap (λ ts. length ts) (sym (targets_of-append count fs gs))

first-sent : (n : ℕ) (g : Guest) → sent_in 1 g ++ sent_in n (next g) ≡ sent_in (suc n) g
unfolding sent_in
first-sent n g = ap (λ t. t ++ sent_in n (next g)) (append-nil (sent g))

lone-then : (n : ℕ) (s : Site) → lone_site n (lone_site 1 s) ≡ lone_site (suc n) s
unfolding after_steps sent_in marked_in
lone-then n s =
    let g = s.primary.live.guest in
    let fs = sent_in 1 g in
    let gs = sent_in n (next g) in
    let all = first-sent n g in
    let frame : (s.primary.next_frame + length fs) + length gs ≡ s.primary.next_frame + length (sent_in (suc n) g) =
    let a = length-append fs gs in let b = ap (λ (t : List Frame). length t) all in omega arith in
    λ i. record s {
      primary = record (after_lone_run (suc n) s.primary) { next_frame = frame i };
      out = (out-then s.out fs gs ∙ ap (with_out s.out) all) i;
      network = (frames-then s.network fs gs ∙ ap (with_frames s.network) all) i;
    }

none-made : (s : Site) → s.primary.live.outbox ≡ [] → lone_site 0 s ≡ s
unfolding after_steps sent_in marked_in
none-made s none =
    let frame : s.primary.next_frame + 0 ≡ s.primary.next_frame = omega arith in
    λ i. record s {
      primary = record s.primary { live = record s.primary.live { outbox = sym none i }; next_frame = frame i };
      out = record s.out { now = append-nil s.out.now i };
    }

few : (g : Guest) → length (sent_in 1 g) ≤ 256
unfolding sent_in
few g = let a = (few_sent g).most in let b = length-append (sent g) [] in omega arith

room-first : (n : ℕ) (g : Guest) (sofar : List Frame) → HaveRoom (suc n) g sofar → length sofar ≤ 192
unfolding HaveRoom
room-first n g sofar h = h.0

room-later : (n : ℕ) (g : Guest) (sofar : List Frame) → HaveRoom (suc n) g sofar → HaveRoom n (after_steps 1 g) (sofar ++ sent_in 1 g)
unfolding HaveRoom after_steps sent_in
room-later n g sofar h = subst (λ fs. HaveRoom n (next g) (sofar ++ fs)) (sym (append-nil (sent g))) h.1

parts-are : (n : ℕ) (s : Site)
    → copies s (sent_in 1 s.primary.live.guest) + copies (lone_site 1 s) (sent_in n (after_steps 1 s.primary.live.guest))
    ≡ copies s (sent_in (suc n) s.primary.live.guest)
unfolding after_steps
parts-are n s =
    let g = s.primary.live.guest in
    copies-then s (sent_in 1 g) (sent_in n (next g)) ∙ ap (copies s) (first-sent n g)

first_served : (s : Site) (w : Pair) → Matches s w → HasRoom w (1 + 1024) → s.mode ≡ Alone → s.primary.next_frame ≤ last_frame
    → IsServed w (1 + copies s (sent_in 1 s.primary.live.guest)) [] (lone_site 1 s)
first_served s w m room alone numbers =
    let there = step_served w s.primary.texts s.texts s.acks s.out s.came m.fits room (ap (λ (t : Site). t.mode) (sym m.is) ∙ alone)
    (few w.nodes.live.guest) (subst (λ (t : Site). t.primary.next_frame ≤ last_frame) m.is numbers) in
    subst (λ (t : Site). IsServed w (1 + copies t (sent_in 1 t.primary.live.guest)) [] (lone_site 1 t)) (sym m.is) there

-- steps of a primary that is alone, where it had sent these before in the same call
pub lone_served : (n : ℕ) (s : Site) (w : Pair) (sofar : List Frame) → Matches s w
    → HasRoom w (n + 1024 + copies s (sent_in n s.primary.live.guest)) → s.mode ≡ Alone → HaveRoom n s.primary.live.guest sofar
    → s.primary.next_frame + 256 ≤ last_frame + length sofar
    → IsServed w (n + copies s (sent_in n s.primary.live.guest)) [] (lone_site n s)
lone_served zero s w sofar m room alone free numbers =
    let lone : is_alone w.protocol.state.mode ≡ true = ap (λ (t : Site). is_alone t.mode) (sym m.is) ∙ ap is_alone alone in
    let k = m.fits.pair in
    let none = ap (λ (t : Site). t.primary.live.outbox) m.is ∙ (alone_is w k.holds (keeps_nothing w k.holds k.record_is lone)).outbox in
    nothing_served w (0 + copies s (sent_in 0 s.primary.live.guest)) (lone_site 0 s)
    (subst (λ (t : Site). Matches t w) (sym (none-made s none)) m)
lone_served (suc n) s w sofar m room alone free numbers =
    let g = s.primary.live.guest in
    let few_now = room-first n g sofar free in
    let u = lone_site 1 s in
    let parts : copies s (sent_in 1 g) + copies u (sent_in n (after_steps 1 g)) ≡ copies s (sent_in (suc n) g) =
    parts-are n s in
    let a = first_served s w m (omega arith) alone (omega arith) in
    let counts = a.counts in
    let frames = length-append sofar (sent_in 1 g) in
    let b = lone_served n u a.after (sofar ++ sent_in 1 g) a.matches (omega arith) alone (room-later n g sofar free) (omega arith) in
    let all : (1 + copies s (sent_in 1 g)) + (n + copies u (sent_in n (after_steps 1 g))) ≡ suc n + copies s (sent_in (suc n) g) = omega arith in
    subst (λ k. IsServed w k [] (lone_site (suc n) s)) all
    (subst (λ (t : Site). IsServed w ((1 + copies s (sent_in 1 g)) + (n + copies u (sent_in n (after_steps 1 g)))) [] t) (lone-then n s)
    (served_then w (1 + copies s (sent_in 1 g)) (n + copies u (sent_in n (after_steps 1 g))) [] [] u (lone_site n u) a b))

pub lone_matches : (s t : Site) (w : Pair) (n most : ℕ) → Matches s w → HasRoom w (adds s (lone_steps n)) → Premises s (lone_steps n) most
    → Happens s (lone_steps n) t → IsServed w (adds s (lone_steps n)) [] t
lone_matches s t w n most m room fair x =
    let mode : s.mode ≡ w.protocol.state.mode = ap (λ (u : Site). u.mode) m.is in
    let unbacked = ap (λ (u : Site). u.primary.backed) (sym m.is) ∙ x.0 in
    let a = lone_served n s w [] m (omega arith) (mode ∙ has-none w.protocol.state.mode unbacked) x.1 (omega arith) in
    let counts = a.counts in
    rw x.3 (record {
      events = a.events;
      replies = a.replies;
      after = a.after;
      start = a.start;
      run = a.run;
      matches = a.matches;
      counts = omega arith;
      told = a.told;
    })
