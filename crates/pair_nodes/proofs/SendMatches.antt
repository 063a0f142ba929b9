-- Whatever the primary sends of what it keeps, the pair sent.
use Rattle.std.proofs.Common.{◌≡◌, ℕ, ◌+◌, ◌-◌, List, [], ◌∷◌, ◌++◌, length, refl, ap, ◌∙◌, arith, false, Some}
use Rattle.std.proofs.lemmas.Option.{slice_get_within}
use Rattle.std.specs.Prelude.{slice_get, map}
use Rattle.pair_record.specs.declared.event.{Packet.Packet, Event.TheVariants.Send}
use Rattle.pair_record.specs.declared.event.Reply.TheVariants as replies
use Rattle.pair_record.specs.{Modes.{is_alone, is_stopped}, Window.committed_count}
use Rattle.pair_core.specs.{Lines.{packet_of}, Pair.Pair}
use Rattle.pair_nodes.specs.Matching.{Fits, HasRoom, Matches, IsServed, site_of, WasSent}
use Rattle.pair_nodes.specs.Networks.{Output}
use Rattle.pair_nodes.specs.Runs.{Premises}
use Rattle.pair_nodes.specs.Sites.{Site, Happens, sends}
use Rattle.pair_nodes.proofs.{Bags.{at_site, has-standby, matches_so, sent_on}, PairEvents.{after_send, send_kept, send_answers, one_event}}
use Rattle.pair_nodes.proofs.{Coming.still-coming, NameLaws.names-sent}
use Rattle.pair_nodes.proofs.{Places.{place-stays, place-split, place-behind, place-dropped}, Series.{series-at, packet-at}}

module _ (w : Pair) (kept texts : List (List ℕ)) (acks : List Packet) (out : Output) (came : List ℕ) (h : Fits w kept texts acks out came)
    (runs : is_stopped w.protocol.state.mode ≡ false) (two : is_alone w.protocol.state.mode ≡ false)
    (place : ℕ) (text : List ℕ) (there : slice_get kept place ≡ Some text) where
  abbrev v : Pair
  v = after_send w h.pair runs two

  was_sent : WasSent v text
  was_sent =
      let r = w.protocol.state in
      let n = r.window.to_acknowledge + place in
      let within = slice_get_within kept place text there in
      let long = h.count in
      record {
        generation = r.generation;
        number = n;
        is = series-at w.nodes.image.shape r.generation r.window.to_acknowledge kept place text h.numbered there;
        place = length w.protocol.lines.forward + place;
        sent =
            place-behind w.protocol.lines.forward (map (packet_of r.generation) r.pending) place
            ∙ packet-at r.generation r.window.to_acknowledge r.pending place h.pair.record_is.window.numbers (omega arith);
        next = λ same low.
            let c = committed_count r.window in
            let committed = h.pair.record_is.window.committed in
            let at : c + (n - r.window.to_commit) ≡ place = omega arith in
            ap (λ (ts : List (List ℕ)). slice_get ts (n - r.window.to_commit)) h.sealed
            ∙ place-dropped c kept (n - r.window.to_commit) ∙ ap (slice_get kept) at ∙ there;
      }

  send_fits : Fits v kept (texts ++ text ∷ []) acks out came
  send_fits = record {
    pair = send_kept w h.pair runs two;
    count = h.count;
    sealed = h.sealed;
    numbered = h.numbered;
    sent = λ j t is.
        place-split texts text j t (WasSent v)
        (λ i old. let s = h.sent i t old in
        sent_on w v refl (λ k p e. place-stays w.protocol.lines.forward _ k p e) t s s.next)
        was_sent is;
    acked = h.acked;
    coming = still-coming came texts (text ∷ []) h.coming;
    frames = h.frames;
    names = names-sent w.nodes.image.shape w.protocol.state.generation w.protocol.state.window.to_acknowledge kept texts h.names
        (λ i t is. let s = h.sent i t is in (s.generation, s.number, s.is)) place text there
        (series-at w.nodes.image.shape w.protocol.state.generation w.protocol.state.window.to_acknowledge kept place text h.numbered there);
  }

  pub send_served : IsServed w 0 [] (site_of v kept (texts ++ text ∷ []) acks out came)
  send_served = record {
    events = Send ∷ [];
    replies = replies.Sent (length w.protocol.state.pending) ∷ [];
    after = v;
    start = refl;
    run = one_event w v Send _ h.pair (send_kept w h.pair runs two) refl (send_answers w h.pair runs two);
    matches = matches_so _ v kept (texts ++ text ∷ []) acks out came refl send_fits;
    counts = omega arith;
    told = refl;
  }

pub send_matches : (s t : Site) (w : Pair) (k most : ℕ) → Matches s w → HasRoom w 0 → Premises s (sends k) most → Happens s (sends k) t
    → IsServed w 0 [] t
send_matches s t w k most m room fair happens =
    at_site s t w (sends k) most m room fair happens (λ kept texts acks out came h fits fair x.
    rw x.1.2 (send_served w kept texts acks out came h fair.fencing (has-standby (is_alone w.protocol.state.mode) x.0) k x.1.0 x.1.1))
