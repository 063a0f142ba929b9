use Rattle.virtio_mmio.proofs.Rules.{shift_is_places, past_end}
use Rattle.std.proofs.Common.{sym}
use Rattle.virtio_mmio.proofs.transport.config_from.Goals as goal

pub returns-then-place-lt8 : goal.returns-then-place-lt8
returns-then-place-lt8 c = shift_is_places c.args.config c.args.place

pub returns-else-place-lt8 : goal.returns-else-place-lt8
returns-else-place-lt8 c = sym (past_end c.args.config c.args.place c.ranges.config.fits c.if-place-lt8.false)
