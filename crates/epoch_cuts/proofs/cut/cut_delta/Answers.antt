-- The parts are a canonical cut's, and its image over a base is the machine's guest.
use Rattle.std.proofs.Common.{refl, sym, ap, ◌∙◌, arith}
use Rattle.epoch_snapshot.specs.{Bases.IsCheckpointOver, Checkpoints.{Change, change_of}, Images.image_of, Cuts.changed_blocks}
use Rattle.epoch_snapshot.specs.laws.{Images.{IsCanonical-cut, image-delta}, Sectors.Rises-count}
use Rattle.guest_rules.specs.{Dirty.Rises, MachineStates.with_state}
use Rattle.epoch_cuts.proofs.cut.cut_delta.Goals as goal

-- what the checkpoint is made of
abbrev made : goal.After-state → Change
made c = change_of 2 c.shape-shape.result c.args.generation c.args.number c.state.result c.push_pages.new.pages.items
    c.push_pages.new.blocks.items c.push_written.new.list.items c.in_ok-frames.frames.items

is_cut : (c : goal.After-state) →
    IsCheckpointOver c.args.machine.now.settled c.args.machine.now.dirty c.args.machine.now.outbox c.args.machine.now c.args.generation c.args.number (made c)
is_cut c = record {
  version = refl;
  pages_size = c.shape-shape.ensures.pages;
  sectors_size = c.shape-shape.ensures.sectors;
  generation = refl;
  number = refl;
  state = c.state.ensures.value;
  pages = c.in_ok-push_pages.ensures.pages;
  blocks = c.in_ok-push_pages.ensures.blocks ∙ ap (changed_blocks c.args.machine.now.settled c.args.machine.now.guest.ram)
      (sym c.in_ok-push_pages.ensures.pages);
  sectors = c.push_written.ensures;
  frames = c.in_ok-frames.ensures ∙ c.outbox.ensures.value;
}

listed_rise : (c : goal.After-state) → Rises 0 c.shape-shape.result.sectors c.args.machine.now.dirty
listed_rise c =
    Rises-count c.shape-shape.result.sectors c.args.machine.now.guest.sectors c.dirty_sectors.result.now c.args.machine.now.dirty
    c.shape-shape.ensures.sectors c.dirty_sectors.ensures.value c.dirty_sectors.ensures.rises

pub from_parts-requires : goal.from_parts-requires
from_parts-requires c =
    let m = c.args.machine.now in
    IsCanonical-cut m.settled m.dirty m.outbox m c.args.generation c.args.number (made c) (is_cut c) c.requires.first_generation
    c.requires.last_generation c.requires.last_number c.state.ensures.rules (listed_rise c)
    (λ z. absurd (omega (arith, z, c.requires.first_number))) c.outbox.ensures.frames c.outbox.ensures.most
    (λ z. absurd (omega (arith, z, c.requires.first_number)))

pub returns-clause-image : goal.returns-clause-image
returns-clause-image c =
    let m = c.args.machine.now in
    λ base on. ap (λ k. image_of k base) c.from_parts.ensures ∙
    image-delta m c.args.generation c.args.number (made c.before) base (is_cut c.before) c.requires.first_number
    (c.shape-shape.ensures.settled ∙ sym c.shape-shape.ensures.pages) (listed_rise c.before)
    (ap (λ s. with_state m.guest s) (sym c.state.ensures.value) ∙ c.state.ensures.whole) on
