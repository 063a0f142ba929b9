-- A cut at the primary is a cut of the pair.
use Rattle.std.proofs.Common.{◌≡◌, ℕ, ◌+◌, ◌≤◌, List, [], ◌∷◌, ◌++◌, length, refl, sym, ap, ◌∙◌, arith, false, None}
use Rattle.std.proofs.lemmas.List.{drop-append-le, length-append}
use Rattle.output_gate.specs.Epochs.{Epoch}
use Rattle.pair_history.specs.Moves.{guest_along}
use Rattle.pair_record.specs.declared.event.{Packet.Packet, Event.TheVariants.Cut}
use Rattle.pair_record.specs.declared.event.Reply.TheVariants as replies
use Rattle.pair_record.specs.{Accords.all_moves, Modes.{is_alone, is_stopped}, Window.committed_count, Protocol.first_refusal}
use Rattle.pair_record.specs.Protocol.{cut_refusals}
use Rattle.pair_record.specs.laws.Windows.{within}
use Rattle.pair_core.specs.Pair.{Pair, shown_state}
use Rattle.pair_core.specs.laws.Events.{after_cut}
use Rattle.pair_nodes.specs.Matching.{Fits, HasRoom, Matches, IsServed, held_of, sent_of, site_of, primary_of}
use Rattle.pair_nodes.specs.Sides.{IsDelta}
use Rattle.pair_nodes.specs.Networks.{Output}
use Rattle.pair_nodes.specs.Runs.{Premises}
use Rattle.pair_nodes.specs.Sites.{Site, Happens, cuts}
use Rattle.pair_nodes.proofs.{Bags.{at_site, has-standby, matches_so, sent_on}, PairEvents.{cut_kept, cut_answers, one_event}, Places.place-stays}
use Rattle.pair_nodes.proofs.Counts.{cut_counts, same-count}
use Rattle.pair_nodes.proofs.{NameLaws.names-kept, Outs.{cut-held, same-out}}
use Rattle.pair_nodes.proofs.Series.{numbered, series-push}

module _ (w : Pair) (kept texts : List (List ℕ)) (acks : List Packet) (out : Output) (came : List ℕ) (h : Fits w kept texts acks out came) (text : List ℕ)
    (runs : is_stopped w.protocol.state.mode ≡ false) (two : is_alone w.protocol.state.mode ≡ false)
    (free : first_refusal (cut_refusals w.protocol.state) ≡ None) (few : length w.nodes.live.outbox ≤ 256)
    (is_text : IsDelta (primary_of w kept) text) where
  cut_fits : Fits (after_cut w text) (kept ++ text ∷ []) texts acks out came
  cut_fits =
      let r = w.protocol.state in
      let k = h.pair in
      let e : Epoch = record { number = r.window.to_cut; frames = w.nodes.live.outbox } in
      let backed = k.holds.nodes.backed two in
      let counted = k.record_is.window.count in
      let few_committed = within r.window r.pending k.record_is.window in
      let long = h.count in
      record {
        pair = cut_kept w k runs two free few text is_text;
        count = length-append kept (text ∷ []) ∙ ap (λ n. n + 1) h.count ∙ sym (length-append r.pending (e ∷ []));
        sealed =
            ap (λ (ts : List (List ℕ)). ts ++ text ∷ []) h.sealed
            ∙ sym (drop-append-le (committed_count r.window) kept (text ∷ []) (omega arith));
        numbered =
            series-push w.nodes.image.shape r.generation r.window.to_acknowledge kept r.window.to_cut text h.numbered (omega arith)
            (numbered w.nodes.image.shape r.generation r.window.to_cut _ w.nodes.live.guest w.nodes.live.outbox text
            (is_text (guest_along (shown_state w).guest (all_moves k.holds.accords.journal.sealed_moves)) backed.base k.holds.nodes.shape));
        sent = λ j t there.
            let s = h.sent j t there in
            sent_on w (after_cut w text) refl (λ i p is. is) t s (λ same low. place-stays w.nodes.sealed (text ∷ []) _ t (s.next same low));
        acked = h.acked;
        coming = h.coming;
        frames = same-out out (held_of w) (sent_of w) _ _ h.frames (cut-held w k e) refl;
        names = names-kept w.nodes.image.shape r.generation r.window.to_acknowledge kept texts h.names text;
      }

  pub cut_served : IsServed w 0 [] (site_of (after_cut w text) (kept ++ text ∷ []) texts acks out came)
  cut_served = record {
    events = Cut ∷ [];
    replies = replies.Cut w.protocol.state.generation w.protocol.state.window.to_cut ∷ [];
    after = after_cut w text;
    start = refl;
    run = one_event w (after_cut w text) Cut _ h.pair (cut_kept w h.pair runs two free few text is_text) refl
        (cut_answers w h.pair runs two free few text is_text);
    matches = matches_so _ (after_cut w text) (kept ++ text ∷ []) texts acks out came refl cut_fits;
    counts = same-count (cut_counts w.protocol.state.journal);
    told = refl;
  }

pub cut_matches : (s t : Site) (w : Pair) (text : List ℕ) (most : ℕ) → Matches s w → HasRoom w 0 → Premises s (cuts text) most
    → Happens s (cuts text) t → IsServed w 0 [] t
cut_matches s t w text most m room fair happens =
    at_site s t w (cuts text) most m room fair happens (λ kept texts acks out came h fits fair x.
    rw x.4 (cut_served w kept texts acks out came h text fair.fencing (has-standby (is_alone w.protocol.state.mode) x.0) x.1 x.2 x.3))
