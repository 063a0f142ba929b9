-- Steps leave the guest its shape and the texts as they were, and the frames in the outbox have numbers.
use Rattle.std.proofs.Common.{List, ℕ, length, sym, ap, subst, arith, All, ◌≤◌}
use Rattle.checkpoint_stream.specs.Bounds.{most_text}
use Rattle.guest_rules.specs.Guest.{State}
use Rattle.pair_core.specs.Nodes.{HasShape}
use Rattle.pair_nodes.specs.Flagged.{Flagged}
use Rattle.pair_nodes.proofs.Sized.{sized_after_steps}
use Rattle.pair_nodes.proofs.primary.PrimaryNode.run.Goals as goal

pub invariant_of-self : goal.invariant_of-self
invariant_of-self c =
    let a = c.self.inside in
    let inv = c.self.invariant in
    record {
      sized = subst (HasShape a.shape) (sym c.run-made.ensures.guest) (sized_after_steps c.run-made.result a.shape a.kept.machine.guest inv.sized);
      numbered = inv.numbered;
      most = inv.most;
      few = inv.few;
      texts = omega (arith, inv.texts, ap (λ (ts : List (List ℕ)). length ts) c.run-made.ensures.texts);
      short = subst (All (λ t. length t ≤ most_text a.shape)) (sym c.run-made.ensures.texts) inv.short;
      mode = inv.mode;
      alone = inv.alone;
      to_cut = inv.to_cut;
      last_cut = inv.last_cut;
      numbers = omega (
        arith,
        c.few_frames.ensures,
        ap (λ (m : State). length m.outbox) c.machine.ensures,
        c.requires,
        ap (λ (p : Flagged). p.primary.next_frame) c.self.view_is,
      );
      room = inv.room;
    }
