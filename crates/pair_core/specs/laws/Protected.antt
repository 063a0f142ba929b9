-- Where a node that is alone gets a new backup: an empty epoch is sealed, whose text is the full checkpoint.
use Rattle.std.proofs.Common.{◌≡◌, ℕ, ◌+◌, ◌<◌, List, [], ◌∷◌, ◌++◌, map, false, refl, sym, ap, ◌∙◌, subst, arith}
use Rattle.guest_rules.specs.Guest.{Guest}
use Rattle.epoch_snapshot.specs.{Bases.IsBase, Images.image_of}
use Rattle.std.proofs.Math.Path.{transport}
use Rattle.frame_ports.specs.{Limits.number_limit, Numbers.renumbered}
use Rattle.pair_history.specs.Moves.{Move, entries_of}
use Rattle.pair_history.specs.HistoryState.{HistoryState}
use Rattle.pair_record.specs.Protocol.{protect_done}
use Rattle.pair_record.specs.laws.NewBackups.{lives, protect_accords}
use Rattle.pair_core.specs.{Invariant.{AreNodes, Holds, KeepsNothing}, Nodes.{HasShape, machine_of, settled_node, with_protected}}
use Rattle.pair_core.specs.{Pair.{Pair, shown_state}, Texts.IsText}
use Rattle.pair_core.specs.laws.{Consistent.live_is, Kept.keeps_none, Lines.named-next, Nodes.{base-settled, reads-as}}

-- no entries are no moves
no-moves : (ms : List Move) → entries_of ms ≡ [] → ms ≡ []
no-moves [] e = refl
no-moves (m ∷ ms) e = absurd (cc)

no-epochs : (mss : List (List Move)) → map entries_of mss ≡ [] → mss ≡ []
no-epochs [] e = refl
no-epochs (ms ∷ mss) e = absurd (cc)

module _ (w : Pair) (h : Holds w) (k : KeepsNothing w.protocol.state) (last : w.protocol.state.generation + 1 < number_limit) (text : List ℕ)
    (is_text : (before : Guest) → HasShape w.nodes.image.shape w.nodes.live.guest
    → IsText w.nodes.image.shape (w.protocol.state.generation + 1) 0 before w.nodes.live.guest [] text) where
  pub protect_holds : Holds (record w {
    protocol = record w.protocol { state = (protect_done w.protocol.state).1 };
    ports = renumbered w.ports;
    nodes = with_protected w.nodes text;
  })
  protect_holds =
      let r = w.protocol.state in
      let s = shown_state w in
      let live = w.nodes.live.guest in
      let shape = w.nodes.image.shape in
      let guest : live ≡ s.guest =
      sym (live_is w h) ∙ ap (λ (t : HistoryState). t.guest) (lives w.start r w.ports h.accords (k.0, k.2) k.1) in
      let is : (before : Guest) → IsText shape (r.generation + 1) 0 before live [] text = λ before. is_text before h.nodes.shape in
      let nodes : AreNodes false (r.generation + 1) 0 s.guest ([] ∷ []) [] (with_protected w.nodes text) = record {
        first_generation = omega arith;
        last_generation = last;
        backed = λ two. record {
          follows = λ some. absurd (omega arith);
          fills = λ none. record {
            empty = refl;
            kept = refl;
            sent = refl;
            text = text;
            later = [];
            sealed = refl;
            makes = λ before.
                let reads = reads-as shape (r.generation + 1) 0 before live [] text (is before) in
                ap (λ c. image_of c before) reads ∙ (is before).image ∙ guest;
          };
          staged = refl;
          image_shape = subst (HasShape shape) guest h.nodes.shape;
          sealed = (subst (λ (g : Guest). IsText shape (r.generation + 1) 0 s.guest g [] text) guest (is s.guest), tt);
          base = subst (IsBase (machine_of (settled_node live))) guest (base-settled live);
        };
        live = guest;
        outbox = refl;
        shape = h.nodes.shape;
      } in
      let j = h.accords.journal in
      let sealed : [] ≡ j.sealed_moves = sym (no-epochs j.sealed_moves (sym j.sealed_are ∙ k.0)) in
      let running : [] ≡ j.running_moves = sym (no-moves j.running_moves (sym j.running_are ∙ k.1)) in
      record {
        accords = protect_accords w.start r w.ports h.accords (k.0, k.2);
        lines = named-next r w.protocol.lines h.lines (protect_done r).1.window;
        nodes =
            transport (λ i. AreNodes false (r.generation + 1) 0 s.guest (sealed i ++ [] ∷ []) (running i) (with_protected w.nodes text))
            nodes;
        kept = λ two. keeps_none (protect_done r).1 (renumbered w.ports) (with_protected w.nodes text).image refl refl refl refl;
        still = λ e. absurd (cc);
      }
