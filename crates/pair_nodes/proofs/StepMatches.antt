-- The guest's steps at a primary that has a standby are those of the pair.
use Rattle.std.proofs.Common.{◌≡◌, ℕ, List, [], length, replicate, refl, sym, subst, arith, false, inl}
use Rattle.guest_rules.specs.Runs.{after_steps, HaveRoom}
use Rattle.pair_history.specs.Entries.{Ran}
use Rattle.pair_record.specs.declared.event.{Packet.Packet, Event.TheVariants.Step}
use Rattle.pair_record.specs.declared.event.Reply.TheVariants as replies
use Rattle.pair_record.specs.{Modes.{is_alone, is_stopped}}
use Rattle.pair_core.specs.{Calls.Moment, Pair.Pair, Runs.{StepsAnswerIn, with_steps}, Service.{HasServed, ServesSteps, moment}}
use Rattle.pair_core.specs.laws.Consistent.{consistent}
use Rattle.pair_core.specs.laws.{Steps.{steps_hold, steps_answered}, StepsServed.steps_serve}
use Rattle.pair_nodes.specs.Matching.{Fits, HasRoom, Kept, Matches, IsServed, site_of}
use Rattle.pair_nodes.specs.Networks.{Output}
use Rattle.pair_nodes.specs.Runs.{Premises}
use Rattle.pair_nodes.specs.Sites.{Site, Happens, steps, run_site}
use Rattle.std.proofs.lemmas.List.{length-replicate}
use Rattle.pair_nodes.proofs.Counts.{no_calls, running_counts}
use Rattle.pair_nodes.proofs.Bags.{at_site, has-standby, matches_so, sent_on}

-- steps that are all made are so many events
module _ (w v : Pair) (k : Kept w) (n : Kept v) (same : v.start ≡ w.start) (count steps : ℕ)
    (answer : StepsAnswerIn w.start w.protocol.state count (replies.Steps steps) v.protocol.state) where
  pub all_made : ServesSteps w.start (moment w) count (replies.Steps steps) (moment v)
  all_made =
      steps_serve w v count (replies.Steps steps) same (consistent w k.holds k.record_is k.numbered)
      (consistent v n.holds n.record_is n.numbered) answer

  pub steps_served : HasServed w.start (moment w) (replicate (length all_made.made) Step) all_made.made (moment v)
  steps_served =
      let ends = all_made.ends in
      subst (λ (m : Moment). HasServed w.start (moment w) (replicate (length all_made.made) Step) all_made.made m) (sym ends.1) all_made.run

module _ (w : Pair) (kept texts : List (List ℕ)) (acks : List Packet) (out : Output) (came : List ℕ) (h : Fits w kept texts acks out came) (n : ℕ) (room : HasRoom w n) where
  -- IN A PAIR
  module _ (runs : is_stopped w.protocol.state.mode ≡ false) (two : is_alone w.protocol.state.mode ≡ false)
      (free : HaveRoom n w.nodes.live.guest w.nodes.live.outbox) where
    abbrev ran : Pair
    ran = with_steps n w

    run_kept : Kept ran
    run_kept =
        let k = h.pair in
        record {
          holds = steps_hold n w two k.holds;
          record_is = record { window = k.record_is.window; sealed = k.record_is.sealed; alone = k.record_is.alone; suits = k.record_is.suits };
          numbered = record {
            held = k.numbered.held;
            new = k.numbered.new;
            left = k.numbered.left;
            left_in_pair = k.numbered.left_in_pair;
          };
          clients = k.clients;
        }

    run_fits : Fits ran kept texts acks out came
    run_fits = record {
      pair = run_kept;
      count = h.count;
      sealed = h.sealed;
      numbered = h.numbered;
      sent = λ i t is. let s = h.sent i t is in sent_on w ran refl (λ m q e. e) t s s.next;
      acked = h.acked;
      coming = h.coming;
      frames = h.frames;
      names = h.names;
    }

    pub run_served : IsServed w n [] (run_site n (site_of w kept texts acks out came))
    run_served =
        let answer = inl (steps_answered n w h.pair.holds two (λ l. runs) room free) in
        let k = (after_steps n w.nodes.live.guest).steps in
        record {
          events = replicate (length (all_made w ran h.pair run_kept refl n k answer).made) Step;
          replies = (all_made w ran h.pair run_kept refl n k answer).made;
          after = ran;
          start = refl;
          run = steps_served w ran h.pair run_kept refl n k answer;
          matches = matches_so (run_site n (site_of w kept texts acks out came)) ran kept texts acks out came refl run_fits;
          counts = let c = running_counts w.protocol.state.journal (replicate n Ran) in let l = length-replicate n Ran in omega arith;
          told = no_calls (length (all_made w ran h.pair run_kept refl n k answer).made) (all_made w ran h.pair run_kept refl n k answer).made;
        }

pub step_matches : (s t : Site) (w : Pair) (n most : ℕ) → Matches s w → HasRoom w n → Premises s (steps n) most → Happens s (steps n) t
    → IsServed w n [] t
step_matches s t w n most m room fair happens =
    at_site s t w (steps n) most m room fair happens (λ kept texts acks out came h fits fair x.
    rw x.2 (run_served w kept texts acks out came h n fits fair.fencing (has-standby (is_alone w.protocol.state.mode) x.0) x.1))
