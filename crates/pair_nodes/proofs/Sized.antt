-- The guest keeps its shape.
use Rattle.std.proofs.Common.{ℕ, ◌*◌, ◌≤◌, List, length}
use Rattle.guest_rules.specs.declared.shapes.Shape.{Shape}
use Rattle.guest_rules.specs.Guest.{Guest, boot_guest}
use Rattle.guest_rules.specs.Runs.{after_steps}
use Rattle.guest_rules.specs.Step.{arrived}
use Rattle.pair_history.specs.Entries.{Frame}
use Rattle.pair_core.specs.Nodes.{HasShape}
use Rattle.pair_core.specs.laws.Nodes.{shape-boot, shape-arrived, shape-after_steps}

pub sized_at_boot : (s : Shape) (image : List ℕ) → length image ≤ 4096 * s.pages → HasShape s (boot_guest s.pages s.sectors image)
sized_at_boot = shape-boot

pub sized_after_steps : (n : ℕ) (s : Shape) (g : Guest) → HasShape s g → HasShape s (after_steps n g)
sized_after_steps = shape-after_steps

pub sized_at_arrival : (f : Frame) (s : Shape) (g : Guest) → HasShape s g → HasShape s (arrived g f)
sized_at_arrival = shape-arrived
