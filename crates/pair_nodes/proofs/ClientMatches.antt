-- What clients and their network do is what they do at the pair.
use Rattle.std.proofs.Common.{◌≡◌, ℕ, zero, suc, ◌+◌, ◌-◌, ◌<◌, ◌≤◌, List, [], ◌∷◌, length, drop, remove, refl, sym, ap, ◌∙◌, subst, arith, true, false, inl}
use Rattle.std.proofs.{Common.{None, Some, Option, Bool, cond, Bor}, lemmas.{Bool.Decides.nat_tests, List.length-set}}
use Rattle.std.specs.Prelude.{slice_get, nat_le, not, option_map}
use Rattle.frame_ports.specs.{Addresses.IsFrame, Lands.list_of, Limits.{inbox_frames, number_limit}, Ports.{PortsState, after_delivery}}
use Rattle.pair_history.specs.Entries.{Frame, Entry, Arrive, Delivered, DropIn, DropOut, Took}
use Rattle.pair_history.specs.Entries as entries
use Rattle.pair_record.specs.Journal.{Journal, all_entries, with_moves, with_history}
use Rattle.pair_record.specs.declared.event.{Packet.Packet, Event.Event, Reply.Reply}
use Rattle.pair_record.specs.declared.event.Event.TheVariants.{Admit, Take, LoseIn, LoseOut, Deliver}
use Rattle.pair_record.specs.declared.event.Refusal.TheVariants.{NoClient, Stopped, Exhausted, BadFrame, Full}
use Rattle.pair_record.specs.{Modes.{is_alone, is_stopped}, Record.{IsRecord, AreNumbered, ports_after_admit, ports_after_take}}
use Rattle.pair_record.specs.Record.{ports_after_lose_in, ports_after_lose_out}
use Rattle.pair_record.specs.Protocol.{Record, Outcome, first_refusal, admit_done, take_done, loss_done, admit_refusals, admit_of}
use Rattle.pair_record.specs.Protocol.{take_refusals, loss_refusals, loss_of, lost_in, lost_out, is_among, outcome}
use Rattle.pair_record.specs.Protocol.{deliver_done, deliver_refusals, delivery_refused, is_bad_length, unless}
use Rattle.std.proofs.lemmas.Bool.{lt-leb, le-leb}
use Rattle.pair_record.specs.ClientActs.{if_there}
use Rattle.pair_core.specs.{Invariant.Holds, Lines.{got, lines_after}, Nodes.with_arrival, Pair.Pair}
use Rattle.pair_core.specs.laws.{AllLands.admitted_holds, ClientEvents.{take_holds, lose_in_holds, lose_out_holds, deliver_holds}}
use Rattle.pair_core.specs.laws.ClientEvents.{full_holds}
use Rattle.pair_core.specs.laws.Losses.{lose_in_by_table, lose_out_by_table}
use Rattle.pair_core.specs.laws.Outcomes.{admit_by_table, done_by_table, delivery_is_done, delivery_is_refused, done_if_none_refuses}
use Rattle.pair_nodes.specs.Matching.{Fits, HasRoom, Kept, Matches, IsServed, network_of, site_of}
use Rattle.pair_history.specs.HistoryState.{HistoryState, sent_along}
use Rattle.pair_nodes.proofs.Outs.{come-frames, quiet-frames}
use Rattle.pair_nodes.specs.Networks.{Output}
use Rattle.pair_nodes.specs.Runs.{Premises, call_of, calls_by}
use Rattle.pair_nodes.specs.Sites.{Site, Happens, comes, takes, loses_in, loses_out, delivers, overflows, come_site}
use Rattle.std.proofs.Common.{◌++◌}
use Rattle.pair_nodes.proofs.Counts.{history_counts, moves_counts}
use Rattle.pair_nodes.proofs.{Bags.{at_site, matches_so, sent_on}, PairEvents.{in_mode, one_event}}

-- what stands at a place where there is something
some_at : {A : Type 0} (xs : List A) (place : ℕ) → place < length xs → (x : A) × (slice_get xs place ≡ Some x)
some_at [] place l = absurd (omega arith)
some_at (x ∷ xs) zero l = (x, refl)
some_at (x ∷ xs) (suc place) l = some_at xs place (omega arith)

-- a client's number
among : (c count : ℕ) → 1 ≤ c → c ≤ count → not (is_among c count) ≡ false
among c count low high = grind (arith, nat_tests, low, high)

-- what an arrival leaves of what is sealed
sealed-moves : (t : Bool) (j : Journal) (es : List Entry) → (with_moves t j es).sealed ≡ j.sealed
sealed-moves true j es = refl
sealed-moves false j es = refl

-- THE PAIR AFTER A CHANGE of its journal alone, and of its ports
module _ (w : Pair) (kept texts : List (List ℕ)) (acks : List Packet) (out : Output) (came : List ℕ) (h : Fits w kept texts acks out came) (j : Journal)
    (sealed : j.sealed ≡ w.protocol.state.journal.sealed) (q : PortsState) (numbers : q.numbers ≡ w.ports.numbers)
    (boxes : length q.boxes ≡ length w.ports.boxes) where
  abbrev pub changed : Pair
  changed = record w { protocol = record w.protocol { state = record w.protocol.state { journal = j } }; ports = q }

  pub change_record : IsRecord changed.protocol.state
  change_record =
      let k = h.pair.record_is in
      record {
        window = k.window;
        sealed = ap (λ ess. w.protocol.state.window.to_commit + length ess) sealed ∙ k.sealed;
        alone = λ e. let x = k.alone e in (sealed ∙ x.0, x.1);
        suits = k.suits;
      }

  pub change_numbers : AreNumbered changed.protocol.state q
  change_numbers =
      let n = h.pair.numbered in
      subst (λ (ns : List ℕ). AreNumbered changed.protocol.state (record q { numbers = ns })) (sym numbers) (record {
        held = n.held;
        new = n.new;
        left = n.left;
        left_in_pair = n.left_in_pair;
      })

  pub change_clients : length q.numbers ≡ length q.boxes
  change_clients = ap (λ (ns : List ℕ). length ns) numbers ∙ h.pair.clients ∙ sym boxes

-- TAKE, and losses: what a client's event adds to the history
module _ (w : Pair) (kept texts : List (List ℕ)) (acks : List Packet) (out : Output) (came : List ℕ) (h : Fits w kept texts acks out came) (es : List Entry) (q : PortsState)
    (quiet : (s : HistoryState) → sent_along s es ≡ []) (numbers : q.numbers ≡ w.ports.numbers)
    (boxes : length q.boxes ≡ length w.ports.boxes) where
  abbrev pub told : Pair
  told = record w {
    protocol = record w.protocol { state = record w.protocol.state { journal = with_history w.protocol.state.journal es } };
    ports = q;
  }

  pub told_served : (holds : Holds told) (event : Event) (reply : Reply)
      → (reply, told.protocol.state) ≡ outcome w.start w.protocol.state (got w.protocol.lines event) event
      → told.protocol.lines ≡ lines_after w.protocol reply
      → length es ≡ 1 → IsServed w 1 (call_of event reply ++ []) (record (site_of w kept texts acks out came) { network = network_of q })
  told_served holds event reply answer lines one =
      let k : Kept told = record {
        holds = holds;
        record_is = change_record w kept texts acks out came h told.protocol.state.journal refl q numbers boxes;
        numbered = change_numbers w kept texts acks out came h told.protocol.state.journal refl q numbers boxes;
        clients = change_clients w kept texts acks out came h told.protocol.state.journal refl q numbers boxes;
      } in
      record {
        events = event ∷ [];
        replies = reply ∷ [];
        after = told;
        start = refl;
        run = one_event w told event reply h.pair k refl (inl answer, lines);
        matches =
            matches_so (record (site_of w kept texts acks out came) { network = network_of q }) told kept texts acks out came refl (record {
              pair = k;
              count = h.count;
              sealed = h.sealed;
              numbered = h.numbered;
              sent = λ i t is. let s = h.sent i t is in sent_on w told refl (λ m p e. e) t s s.next;
              acked = h.acked;
              coming = h.coming;
              frames = quiet-frames w out h.frames es quiet;
              names = h.names;
            });
        counts = let c = history_counts w.protocol.state.journal es in omega arith;
        told = refl;
      }

module _ (w : Pair) (kept texts : List (List ℕ)) (acks : List Packet) (out : Output) (came : List ℕ) (h : Fits w kept texts acks out came) (room : HasRoom w 1) (c : ℕ)
    (low : 1 ≤ c) (high : c ≤ length w.ports.boxes) where
  abbrev r : Record
  r = w.protocol.state

  full : nat_le number_limit (length (all_entries w.protocol.state.journal) + 1) ≡ false
  full = lt-leb number_limit _ room

  client : not (is_among c (length w.ports.boxes)) ≡ false
  client = among c (length w.ports.boxes) low high

  pub take_served : IsServed w 1 (calls_by (site_of w kept texts acks out came) (takes c)) (record (site_of w kept texts acks out came) { network = network_of (ports_after_take w.ports c) })
  take_served =
      let first = slice_get (list_of w.ports.boxes c) 0 in
      let done = take_done w.ports.boxes r c in
      let free : first_refusal (take_refusals false (length w.ports.boxes) r c) ≡ None =
      λ i. cond (client i) (Some NoClient) (cond (full i) (Some Exhausted) None) in
      told_served w kept texts acks out came h (Took c first ∷ []) (ports_after_take w.ports c) (λ s. refl) refl
      (length-set w.ports.boxes (c - 1) (drop 1 (list_of w.ports.boxes c))) (take_holds w h.pair.holds c low high) (Take c) done.0
      (in_mode w (Take c) None done refl
      (done_if_none_refuses r (take_refusals false (length w.ports.boxes) r c) done free
      ∙ ap (λ b. unless r (take_refusals false (length b) r c) (take_done b r c)) h.pair.holds.accords.clients.boxes))
      refl refl

  -- no row refuses the loss of a frame that is there
  no_row : (lost : Option Entry) (e : Entry) → lost ≡ Some e → first_refusal (loss_refusals false (length w.ports.boxes) r c lost) ≡ None
  no_row lost e some =
      λ i. first_refusal ((client i, NoClient) ∷ if_there (some i) ((full i, Exhausted) ∷ (false, Exhausted) ∷ []))

  pub lose_out_served : (place : ℕ) → place < length (list_of w.ports.boxes c)
      → IsServed w 1 [] (record (site_of w kept texts acks out came) { network = network_of (ports_after_lose_out w.ports c place) })
  lose_out_served place there =
      let e = DropOut c place in
      let done = loss_done r e in
      let at = some_at (list_of w.ports.boxes c) place there in
      let some : lost_out c (list_of w.ports.boxes c) place ≡ Some e = ap (option_map (λ (f : Frame). DropOut c place)) at.1 in
      told_served w kept texts acks out came h (e ∷ []) (ports_after_lose_out w.ports c place) (λ s. refl) refl
      (length-set w.ports.boxes (c - 1) (remove (list_of w.ports.boxes c) place)) (lose_out_holds w h.pair.holds c low high place there)
      (LoseOut c place) done.0
      (in_mode w (LoseOut c place) None done refl
      (ap (loss_of r) (sym some)
      ∙ done_by_table (lose_out_by_table w h.pair.holds c place)
      (no_row (lost_out c (list_of w.ports.boxes c) place) e some)))
      refl refl

  pub lose_in_served : (place : ℕ) → place < length (list_of w.ports.inboxes c)
      → IsServed w 1 [] (record (site_of w kept texts acks out came) { network = network_of (ports_after_lose_in w.ports c place) })
  lose_in_served place there =
      let at = some_at (list_of w.ports.inboxes c) place there in
      let e = DropIn at.0.0 in
      let done = loss_done r e in
      let some : lost_in (list_of w.ports.inboxes c) place ≡ Some e = ap (option_map (λ (x : ℕ × Frame). DropIn x.0)) at.1 in
      told_served w kept texts acks out came h (e ∷ []) (ports_after_lose_in w.ports c place) (λ s. refl) refl refl
      (lose_in_holds w h.pair.holds c low high place at.0.0 at.0.1 at.1)
      (LoseIn c place) done.0
      (in_mode w (LoseIn c place) None done refl
      (ap (loss_of r) (sym some)
      ∙ done_by_table (lose_in_by_table w h.pair.holds c place)
      (no_row (lost_in (list_of w.ports.inboxes c) place) e some)))
      refl refl

  -- A FRAME is delivered, or finds no room
  module _ (given : Bor (List ℕ)) (frame : IsFrame (record { items = given.now })) where
    abbrev bytes : List ℕ
    bytes = given.now

    good : is_bad_length (length bytes) ≡ false
    good = let a = frame.0 in let b = frame.1 in grind (arith, nat_tests, a, b)

    pub deliver_served : length (list_of w.ports.inboxes c) < inbox_frames → w.ports.next < number_limit
        → IsServed w 1 (calls_by (site_of w kept texts acks out came) (delivers c given)) (record (site_of w kept texts acks out came) { network = network_of (after_delivery w.ports c bytes) })
    deliver_served few last =
        let f : Frame = record { items = bytes } in
        let done = deliver_done r c f w.ports.next in
        let inbox = list_of w.ports.inboxes c in
        let row : first_refusal (deliver_refusals false (length w.ports.boxes) inbox w.ports.next r c bytes) ≡ None =
        λ i. cond (client i) (Some NoClient) (cond (good i) (Some BadFrame) (cond (full i) (Some Exhausted)
        (cond (lt-leb inbox_frames (length inbox) few i) (Some Full) (cond (lt-leb number_limit w.ports.next last i) (Some Exhausted) None)))) in
        told_served w kept texts acks out came h (Delivered c f w.ports.next ∷ []) (after_delivery w.ports c bytes) (λ s. refl) refl refl
        (deliver_holds w h.pair.holds c low high bytes frame) (Deliver c given) done.0
        (in_mode w (Deliver c given) None done refl (delivery_is_done w h.pair.holds c bytes row))
        refl refl

    pub overflow_served : inbox_frames ≤ length (list_of w.ports.inboxes c) → IsServed w 1 (calls_by (site_of w kept texts acks out came) (overflows c given)) (site_of w kept texts acks out came)
    overflow_served many =
        let f : Frame = record { items = bytes } in
        let done = delivery_refused r c f Full in
        let inbox = list_of w.ports.inboxes c in
        let row : first_refusal (deliver_refusals false (length w.ports.boxes) inbox w.ports.next r c bytes) ≡ Some Full =
        λ i. cond (client i) (Some NoClient) (cond (good i) (Some BadFrame) (cond (full i) (Some Exhausted)
        (cond (le-leb inbox_frames (length inbox) many i) (Some Full) (cond (nat_le number_limit w.ports.next) (Some Exhausted) None)))) in
        told_served w kept texts acks out came h (entries.Refused c f ∷ []) w.ports (λ s. refl) refl refl
        (full_holds w h.pair.holds c low high bytes frame many) (Deliver c given) done.0
        (in_mode w (Deliver c given) None done refl (delivery_is_refused w h.pair.holds c bytes Full row))
        refl refl

-- AN ARRIVAL
module _ (w : Pair) (kept texts : List (List ℕ)) (acks : List Packet) (out : Output) (came : List ℕ) (h : Fits w kept texts acks out came) (room : HasRoom w 1)
    (runs : is_stopped w.protocol.state.mode ≡ false) (c : ℕ) (low : 1 ≤ c) (high : c ≤ length w.ports.boxes) (n : ℕ) (f : Frame)
    (first : slice_get (list_of w.ports.inboxes c) 0 ≡ Some (n, f)) where
  abbrev done : Outcome
  done = admit_done w.protocol.state n

  abbrev come : Pair
  come = record w {
    protocol = record w.protocol { state = (admit_done w.protocol.state n).1 };
    ports = ports_after_admit w.ports c;
    nodes = with_arrival w.nodes f;
  }

  come_kept : Kept come
  come_kept =
      let j = come.protocol.state.journal in
      let sealed = sealed-moves (is_alone w.protocol.state.mode) w.protocol.state.journal (Arrive n ∷ []) in
      let q = ports_after_admit w.ports c in
      record {
        holds = admitted_holds w h.pair.holds h.pair.record_is c n f low high first;
        record_is = change_record w kept texts acks out came h j sealed q refl refl;
        numbered = change_numbers w kept texts acks out came h j sealed q refl refl;
        clients = h.pair.clients;
      }

  come_fits : Fits come kept texts acks out came
  come_fits = record {
    pair = come_kept;
    count = h.count;
    sealed = h.sealed;
    numbered = h.numbered;
    sent = λ i t is. let s = h.sent i t is in sent_on w come refl (λ m p e. e) t s s.next;
    acked = h.acked;
    coming = h.coming;
    frames = come-frames w out h.frames n (is_alone w.protocol.state.mode);
    names = h.names;
  }

  pub come_served : IsServed w 1 [] (come_site (site_of w kept texts acks out came) c f)
  come_served =
      let r = w.protocol.state in
      let inbox = list_of w.ports.inboxes c in
      let free : first_refusal (admit_refusals (length w.ports.boxes) r c (slice_get inbox 0)) ≡ None =
      λ i. first_refusal ((among c (length w.ports.boxes) low high i, NoClient) ∷ (runs i, Stopped)
      ∷ if_there (first i) ((lt-leb number_limit (length (all_entries r.journal) + 1) room i, Exhausted) ∷ [])) in
      record {
        events = Admit c ∷ [];
        replies = done.0 ∷ [];
        after = come;
        start = refl;
        run =
            one_event w come (Admit c) done.0 h.pair come_kept refl (
              inl (in_mode w (Admit c) None done refl (ap (admit_of r) (sym first) ∙ done_by_table (admit_by_table w h.pair.holds c) free)),
              refl,
            );
        matches = matches_so (come_site (site_of w kept texts acks out came) c f) come kept texts acks out came refl come_fits;
        counts = let c = moves_counts (is_alone r.mode) r.journal (Arrive n ∷ []) in omega arith;
        told = refl;
      }

pub come_matches : (s t : Site) (w : Pair) (c most : ℕ) → Matches s w → HasRoom w 1 → Premises s (comes c) most → Happens s (comes c) t
    → IsServed w 1 [] t
come_matches s t w c most m room fair happens =
    at_site s t w (comes c) most m room fair happens (λ kept texts acks out came h fits fair x.
    rw x.1.3 (come_served w kept texts acks out came h fits fair.fencing c x.0.0 x.0.1 x.1.0 x.1.1 x.1.2))

pub take_matches : (s t : Site) (w : Pair) (c most : ℕ) → Matches s w → HasRoom w 1 → Premises s (takes c) most → Happens s (takes c) t
    → IsServed w 1 (calls_by s (takes c)) t
take_matches s t w c most m room fair happens =
    at_site s t w (takes c) most m room fair happens (λ kept texts acks out came h fits fair x.
    rw x.1 (take_served w kept texts acks out came h fits c x.0.0 x.0.1))

pub lose_in_matches : (s t : Site) (w : Pair) (c place most : ℕ) → Matches s w → HasRoom w 1 → Premises s (loses_in c place) most
    → Happens s (loses_in c place) t → IsServed w 1 [] t
lose_in_matches s t w c place most m room fair happens =
    at_site s t w (loses_in c place) most m room fair happens (λ kept texts acks out came h fits fair x.
    rw x.2 (lose_in_served w kept texts acks out came h fits c x.0.0 x.0.1 place x.1))

pub lose_out_matches : (s t : Site) (w : Pair) (c place most : ℕ) → Matches s w → HasRoom w 1 → Premises s (loses_out c place) most
    → Happens s (loses_out c place) t → IsServed w 1 [] t
lose_out_matches s t w c place most m room fair happens =
    at_site s t w (loses_out c place) most m room fair happens (λ kept texts acks out came h fits fair x.
    rw x.2 (lose_out_served w kept texts acks out came h fits c x.0.0 x.0.1 place x.1))

pub deliver_matches : (s t : Site) (w : Pair) (c : ℕ) (bytes : Bor (List ℕ)) (most : ℕ) → Matches s w → HasRoom w 1
    → Premises s (delivers c bytes) most → Happens s (delivers c bytes) t → IsServed w 1 (calls_by s (delivers c bytes)) t
deliver_matches s t w c bytes most m room fair happens =
    at_site s t w (delivers c bytes) most m room fair happens (λ kept texts acks out came h fits fair x.
    rw x.4 (deliver_served w kept texts acks out came h fits c x.0.0 x.0.1 bytes x.1 x.2 x.3))

pub overflow_matches : (s t : Site) (w : Pair) (c : ℕ) (bytes : Bor (List ℕ)) (most : ℕ) → Matches s w → HasRoom w 1
    → Premises s (overflows c bytes) most → Happens s (overflows c bytes) t → IsServed w 1 (calls_by s (overflows c bytes)) t
overflow_matches s t w c bytes most m room fair happens =
    at_site s t w (overflows c bytes) most m room fair happens (λ kept texts acks out came h fits fair x.
    rw x.3 (overflow_served w kept texts acks out came h fits c x.0.0 x.0.1 bytes x.1 x.2))
