-- Where the primary stops, the pair's does.
use Rattle.std.proofs.Common.{◌≡◌, ℕ, List, [], ◌∷◌, refl, ap, subst, arith, true, false, inl, None}
use Rattle.std.specs.Prelude.{not}
use Rattle.failover.specs.declared.mode.{Mode.Mode, Mode.TheVariants.{Paired, Stopped}}
use Rattle.pair_record.specs.declared.event.{Packet.Packet, Event.TheVariants.FailPrimary}
use Rattle.pair_record.specs.declared.event.Reply.TheVariants as replies
use Rattle.pair_record.specs.{Modes.{is_alone, mode_refusal}, Protocol.fail_primary_done, Record.{SuitsMode}}
use Rattle.pair_core.specs.Pair.{Pair}
use Rattle.pair_core.specs.laws.Events.{mode_holds}
use Rattle.pair_nodes.specs.Matching.{Fits, HasRoom, Kept, Matches, IsServed, site_of, primary_of}
use Rattle.pair_nodes.specs.Networks.{Output}
use Rattle.pair_nodes.specs.Runs.{Premises}
use Rattle.pair_nodes.specs.Sites.{Site, Happens, stops}
use Rattle.pair_nodes.proofs.{Bags.{at_site, matches_so, sent_on}, PairEvents.{in_mode, one_event}}

module _ (w : Pair) (kept texts : List (List ℕ)) (acks : List Packet) (out : Output) (came : List ℕ) (h : Fits w kept texts acks out came)
    (paired : w.protocol.state.mode ≡ Paired) where
  abbrev pub stopped : Pair
  stopped = record w { protocol = record w.protocol { state = (fail_primary_done w.protocol.state).1 } }

  two : is_alone w.protocol.state.mode ≡ false
  two = ap is_alone paired

  stop_kept : Kept stopped
  stop_kept =
      let k = h.pair in
      let some : SuitsMode Paired w.protocol.state.window = subst (λ (m : Mode). SuitsMode m w.protocol.state.window) paired k.record_is.suits in
      record {
        holds = mode_holds w k.holds Stopped two;
        record_is = record { window = k.record_is.window; sealed = k.record_is.sealed; alone = λ e. absurd (cc); suits = some };
        numbered = record {
          held = k.numbered.held;
          new = k.numbered.new;
          left = k.numbered.left;
          left_in_pair = λ e some. k.numbered.left_in_pair two some;
        };
        clients = k.clients;
      }

  stop_fits : Fits stopped kept texts acks out came
  stop_fits = record {
    pair = stop_kept;
    count = h.count;
    sealed = h.sealed;
    numbered = h.numbered;
    sent = λ i t is. let s = h.sent i t is in sent_on w stopped refl (λ m q e. e) t s s.next;
    acked = h.acked;
    coming = h.coming;
    frames = h.frames;
    names = h.names;
  }

  pub stop_served : IsServed w 0 [] (record (site_of w kept texts acks out came) { mode = Stopped })
  stop_served = record {
    events = FailPrimary ∷ [];
    replies = replies.Stopped ∷ [];
    after = stopped;
    start = refl;
    run =
        let none : mode_refusal w.protocol.state.mode FailPrimary ≡ None = ap (λ m. mode_refusal m FailPrimary) paired in
        one_event w stopped FailPrimary replies.Stopped h.pair stop_kept refl
        (inl (in_mode w FailPrimary None (fail_primary_done w.protocol.state) none refl), refl);
    matches =
        matches_so (record (site_of w kept texts acks out came) { mode = Stopped }) stopped kept texts acks out came
        (λ i. record (site_of stopped kept texts acks out came) { primary = record (primary_of stopped kept) { backed = backed i } }) stop_fits;
    counts = omega arith;
    told = refl;
  }
    where
      backed : not (is_alone w.protocol.state.mode) ≡ true
      backed = ap not two

pub stop_matches : (s t : Site) (w : Pair) (most : ℕ) → Matches s w → HasRoom w 0 → Premises s stops most → Happens s stops t
    → IsServed w 0 [] t
stop_matches s t w most m room fair happens =
    at_site s t w stops most m room fair happens (λ kept texts acks out came h fits fair x.
    rw x (stop_served w kept texts acks out came h fair.one_stop_a_generation))
