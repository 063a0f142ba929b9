-- A frame that arrives leaves the guest its shape, the outbox and the texts as they were.
use Rattle.std.proofs.Common.{List, ℕ, length, sym, ap, subst, arith, All, ◌≤◌}
use Rattle.checkpoint_stream.specs.Bounds.{most_text}
use Rattle.pair_core.specs.Nodes.{HasShape}
use Rattle.pair_nodes.proofs.Sized.{sized_at_arrival}
use Rattle.pair_nodes.proofs.primary.PrimaryNode.arrive.Goals as goal

pub invariant_of-self : goal.invariant_of-self
invariant_of-self c =
    let a = c.self.inside in
    let inv = c.self.invariant in
    record {
      sized = subst (HasShape a.shape) (sym c.arrive-taken.ensures.guest)
          (sized_at_arrival c.frame_of-frame.result a.shape a.kept.machine.guest inv.sized);
      numbered = inv.numbered;
      most = inv.most;
      few = inv.few;
      texts = omega (arith, inv.texts, ap (λ (ts : List (List ℕ)). length ts) c.arrive-taken.ensures.texts);
      short = subst (All (λ t. length t ≤ most_text a.shape)) (sym c.arrive-taken.ensures.texts) inv.short;
      mode = inv.mode;
      alone = inv.alone;
      to_cut = inv.to_cut;
      last_cut = inv.last_cut;
      numbers = omega (arith, inv.numbers, ap (λ l. length l) c.arrive-taken.ensures.outbox);
      room = inv.room;
    }
