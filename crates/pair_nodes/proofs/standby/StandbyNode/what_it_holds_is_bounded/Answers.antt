-- Each list of a standby has its bound.
use Rattle.std.proofs.Common.{◌≡◌, ◌≤◌, ◌*◌, List, length, None, All, subst, ap, ◌∙◌}
use Rattle.checkpoint_stream.specs.Bounds.{IsBounded}
use Rattle.frame_ports.specs.Addresses.{IsFrame}
use Rattle.guest_rules.specs.Limits.{page_bytes}
use Rattle.guest_rules.specs.declared.shapes.Shape.{Shape}
use Rattle.pair_history.specs.Entries.{Frame}
use Rattle.pair_nodes.specs.Sides.{Standby}
use Rattle.pair_nodes.proofs.Bounding.{standby-bytes}
use Rattle.pair_nodes.proofs.standby.StandbyNode.what_it_holds_is_bounded.Goals as goal

pub returns-clause-lists : goal.returns-clause-lists
returns-clause-lists c =
    let inv = c.self.invariant in
    let v = c.self.view_is in
    let image = c.shape-shape.ensures in
    let kept = c.first-first.ensures.rules in
    let lists = c.kept.ensures.lists in
    record {
      ram = subst (λ (b : Standby). length b.image.guest.ram ≡ page_bytes * b.image.shape.pages) v
          (image.pages ∙ ap (λ (s : Shape). page_bytes * s.pages) image.value);
      sectors = subst (λ (b : Standby). length b.image.guest.sectors ≡ 512 * b.image.shape.sectors) v
          (image.sectors ∙ ap (λ (s : Shape). 512 * s.sectors) image.value);
      staged = subst (λ (b : Standby). b.image.staged ≡ None) v inv.staged;
      kept = subst (λ (b : Standby). length b.image.kept ≤ 4) v
          (subst (λ (l : List (List Frame)). length l ≤ 4) lists kept.few);
      kept_frames = subst (λ (b : Standby). All (λ frames. length frames ≤ 256) b.image.kept) v
          (subst (λ (l : List (List Frame)). All (λ frames. length frames ≤ 256) l) lists kept.short);
      each_frame = subst (λ (b : Standby). All (λ frames. All IsFrame frames) b.image.kept) v
          (subst (λ (l : List (List Frame)). All (λ frames. All IsFrame frames) l) lists kept.frames);
      shape = subst (λ (b : Standby). b.reading.shape ≡ b.image.shape) v inv.shape;
      reading = subst (λ (b : Standby). IsBounded b.reading) v c.what_it_holds_is_bounded.ensures;
    }

pub returns-clause-bytes : goal.returns-clause-bytes
returns-clause-bytes c = standby-bytes c.args.self.now (returns-clause-lists c)
