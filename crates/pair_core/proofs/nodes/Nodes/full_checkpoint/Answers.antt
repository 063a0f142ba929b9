use Rattle.std.proofs.Common.{[], length, replicate}
use Rattle.guest_rules.specs.Guest.{sector_count}
use Rattle.epoch_snapshot.specs.Cuts.{used_sectors}
use Rattle.pair_core.specs.internal.NodesFields.{image_or}
use Rattle.pair_core.specs.laws.Nodes.{delta-text}
use Rattle.pair_core.proofs.nodes.Nodes.full_checkpoint.Goals as goal

pub returns-clause-text : goal.returns-clause-text
returns-clause-text c =
    let m = c.self.inside.live in
    let text = c.in_ok-text.text.items in
    rw (← c.self.view_is) (λ before sized. delta-text (replicate (length m.guest.ram) 0) (used_sectors m.guest.sectors (sector_count
    m.guest.sectors)) [] m c.args.generation 0 c.in_ok-checkpoint.checkpoint (image_or c.self.inside.shape c.self.inside.image).shape text before
    c.in_ok-checkpoint.ensures.parts c.in_ok-text.ensures.read (c.in_ok-checkpoint.ensures.image before) sized)
