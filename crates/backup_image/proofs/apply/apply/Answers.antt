-- What the parts make is the image.
use Rattle.std.proofs.{Common.{◌≡◌, false, length, ap, ◌∙◌}, lemmas.List.length-replicate}
use Rattle.guest_rules.specs.Guest.{Guest, State}
use Rattle.epoch_snapshot.specs.{Blocks.block_numbers, Images.with_blocks}
use Rattle.backup_image.proofs.PutLemmas.{image-made}
use Rattle.backup_image.proofs.apply.apply.Goals as goal

pub returns-clause-machine : goal.returns-clause-machine
returns-clause-machine c =
    let m = c.args.machine.now in
    let guest : c.settle.new.self.guest ≡ m.guest = ap (λ (s : State). s.guest) c.settle.ensures in
    let flags : length c.settle.new.self.written ≡ length m.written
    = ap (λ (s : State). length s.written) c.settle.ensures ∙ length-replicate (length m.written) false in
    image-made m c.put_pages.new.machine c.put_sectors.new.machine c.put_state.new.self c.settle-2.new.self
    c.args.checkpoint.now
    c.pages.result.now c.blocks-2.result.now c.sectors.result.now c.state.result.now
    c.pages.ensures.value c.blocks-2.ensures.value c.sectors.ensures.value c.state.ensures.value c.requires.memory c.requires.disk
    (c.put_pages.ensures.guest
    ∙ ap (λ (g : Guest). record g { ram = with_blocks g.ram (block_numbers c.pages.result.now) c.blocks-2.result.now }) guest)
    c.put_sectors.ensures.guest c.put_state.ensures c.settle-2.ensures
    (c.put_sectors.ensures.flags ∙ ap length c.put_pages.ensures.flags ∙ flags ∙ c.requires.flags)
