-- The parts are a canonical cut's, and its image over any guest is the machine's.
use Rattle.std.proofs.{Common.{ℕ, [], arith, length, replicate, refl, sym, ap, ◌∙◌, lit<}, lemmas.List.Elements.All-nil}
use Rattle.net_device.specs.Frames.{IsFrame}
use Rattle.guest_rules.specs.MachineStates.{with_state}
use Rattle.epoch_snapshot.specs.{Bases.IsCheckpointOver, Checkpoints.{Change, change_of}, Cuts.{changed_blocks, used_sectors}, Images.image_of}
use Rattle.epoch_snapshot.specs.laws.{Images.{IsCanonical-cut, image-full}, Sectors.{Rises-used, used-nonzero}}
use Rattle.epoch_cuts.proofs.cut.cut_full.Goals as goal

-- what the checkpoint is made of
abbrev made : goal.After-state → Change
made c = change_of 2 c.shape-shape.result c.args.generation 0 c.state.result c.push_pages.new.pages.items
    c.push_pages.new.blocks.items c.push_used.new.list.items c.new-frames.result.items

is_cut : (c : goal.After-state) →
    IsCheckpointOver (replicate (length c.args.machine.now.guest.ram) 0) (used_sectors c.args.machine.now.guest.sectors c.shape-shape.result.sectors)
    [] c.args.machine.now c.args.generation 0 (made c)
is_cut c =
    let old = replicate {A = ℕ} (length c.args.machine.now.guest.ram) 0 in
    record {
      version = refl;
      pages_size = c.shape-shape.ensures.pages;
      sectors_size = c.shape-shape.ensures.sectors;
      generation = refl;
      number = refl;
      state = c.state.ensures.value;
      pages = c.in_ok-push_pages.ensures.pages;
      blocks = c.in_ok-push_pages.ensures.blocks ∙ ap (changed_blocks old c.args.machine.now.guest.ram) (sym c.in_ok-push_pages.ensures.pages);
      sectors = c.in_ok-push_used.ensures;
      frames = c.new-frames.ensures;
    }

pub from_parts-requires : goal.from_parts-requires
from_parts-requires c =
    let m = c.args.machine.now in
    IsCanonical-cut (replicate {A = ℕ} (length m.guest.ram) 0) (used_sectors m.guest.sectors c.shape-shape.result.sectors) [] m
    c.args.generation 0 (made c) (is_cut c) c.requires.first_generation c.requires.last_generation (lit< tt) c.state.ensures.rules
    (Rises-used m.guest.sectors c.shape-shape.result.sectors) (λ z. used-nonzero m.guest.sectors c.shape-shape.result.sectors)
    (All-nil IsFrame) (omega arith) (λ z. refl)

pub returns-clause-image : goal.returns-clause-image
returns-clause-image c =
    let m = c.args.machine.now in
    λ base. ap (λ k. image_of k base) c.from_parts.ensures ∙
    image-full m c.args.generation (made c.before) base (is_cut c.before)
    (ap (λ s. with_state m.guest s) (sym c.state.ensures.value) ∙ c.state.ensures.whole)
