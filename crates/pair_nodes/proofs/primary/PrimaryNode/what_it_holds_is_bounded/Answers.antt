-- Each list of a primary has its bound.
use Rattle.std.proofs.Common.{◌≡◌, ◌≤◌, ◌*◌, List, length, sym, ap, ◌∙◌, subst, arith, All}
use Rattle.frame_ports.specs.Addresses.{IsFrame}
use Rattle.guest_rules.specs.Guest.{State, sector_count}
use Rattle.guest_rules.specs.Limits.{page_bytes}
use Rattle.pair_history.specs.Entries.{Frame}
use Rattle.checkpoint_stream.specs.Bounds.{most_text}
use Rattle.pair_nodes.specs.Flagged.{Flagged}
use Rattle.pair_nodes.specs.Sides.{Primary}
use Rattle.pair_nodes.proofs.Bounding.{primary-bytes, rises_length}
use Rattle.pair_nodes.proofs.primary.PrimaryNode.what_it_holds_is_bounded.Goals as goal

pub returns-clause-lists : goal.returns-clause-lists
returns-clause-lists c =
    let a = c.self.inside in
    let inv = c.self.invariant in
    let v = ap (λ (p : Flagged). p.primary) c.self.view_is in
    record {
      ram = subst (λ (p : Primary). length p.live.guest.ram ≡ page_bytes * p.shape.pages) v inv.sized.ram;
      settled = subst (λ (p : Primary). length p.live.settled ≡ page_bytes * p.shape.pages) v
          (ap (λ (m : State). length m.settled) (sym c.machine.ensures) ∙ c.shape-shape.ensures.settled ∙ sym c.shape-shape.ensures.pages
          ∙ ap (λ (m : State). length m.guest.ram) c.machine.ensures ∙ inv.sized.ram);
      sectors = subst (λ (p : Primary). length p.live.guest.sectors ≡ 512 * p.shape.sectors) v inv.sized.sectors;
      written = subst (λ (p : Primary). length p.live.dirty ≤ p.shape.sectors) v (omega (
        arith,
        rises_length 0 (sector_count c.machine-2.result.now.guest.sectors) c.dirty_sectors-written.result.now c.dirty_sectors-written.ensures.rises,
        ap (λ l. length l) c.dirty_sectors-written.ensures.value,
        ap (λ (m : State). length m.dirty) c.machine-2.ensures,
        ap (λ (m : State). length m.guest.sectors) c.machine-2.ensures,
        inv.sized.sectors,
      ));
      sent = omega (arith, c.outbox-sent.ensures.few, ap (λ l. length l) c.outbox-sent.ensures.value);
      sent_frames = subst (All IsFrame) c.outbox-sent.ensures.value c.outbox-sent.ensures.frames;
      pending = subst (λ (p : Primary). length p.pending ≤ 4) v inv.few;
      held = omega (arith, c.held-held.ensures.few, ap (λ (l : List Frame). length l) c.held-held.ensures.value);
      held_frames = subst (All IsFrame) c.held-held.ensures.value c.held-held.ensures.frames;
      texts = subst (λ (p : Primary). length p.texts ≤ 4) v (omega (arith, inv.texts, inv.few));
      text_bytes = subst (λ (p : Primary). All (λ t. length t ≤ most_text p.shape) p.texts) v inv.short;
    }

pub returns-clause-bytes : goal.returns-clause-bytes
returns-clause-bytes c = primary-bytes c.args.self.now.primary (returns-clause-lists c)
