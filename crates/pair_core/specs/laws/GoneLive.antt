-- Where the backup goes live: what was kept is discarded, and the guest is the history's.
use Rattle.std.proofs.Common.{◌≡◌, ℕ, ◌+◌, ◌<◌, ◌≤◌, [], refl, sym, subst, arith, true, false}
use Rattle.frame_ports.specs.Limits.{number_limit}
use Rattle.pair_record.specs.{Modes.is_alone, Record.{owed_to, ports_after_live}, Protocol.go_live_done, Window.none_pending}
use Rattle.pair_record.specs.laws.Live.{live_shown_is, live_accords}
use Rattle.pair_core.specs.Invariant.{AreNodes, Holds}
use Rattle.pair_core.specs.{Nodes.{HasShape, gone_live}, Pair.{Pair, shown_state}}
use Rattle.pair_core.specs.laws.Lines.{named-next}

module _ (w : Pair) (h : Holds w) (two : is_alone w.protocol.state.mode ≡ false) (some : 1 ≤ w.protocol.state.window.to_commit) (steps : ℕ)
    (last : w.protocol.state.generation + 1 < number_limit) where
  pub gone_live_holds : Holds (record w {
    protocol = record w.protocol { state = (go_live_done w.ports.boxes (owed_to w.protocol.state w.ports) steps w.protocol.state).1 };
    ports = ports_after_live w.ports w.protocol.state;
    nodes = gone_live w.nodes;
  })
  gone_live_holds =
      let r = w.protocol.state in
      let s = shown_state w in
      let backed = h.nodes.backed two in
      let image = (backed.follows some).image in
      let nodes : AreNodes true (r.generation + 1) r.window.to_commit s.guest [] [] (gone_live w.nodes) =
      record {
        first_generation = omega arith;
        last_generation = last;
        backed = λ e. absurd (cc);
        live = image;
        outbox = refl;
        shape = subst (HasShape w.nodes.image.shape) (sym image) backed.image_shape;
      } in
      record {
        accords = live_accords w.start r w.ports h.accords steps;
        lines = named-next r w.protocol.lines h.lines (none_pending r.window.to_commit);
        nodes = rw (live_shown_is w.start r w.ports h.accords) nodes;
        kept = λ e. absurd (cc);
        still = λ e. refl;
      }
