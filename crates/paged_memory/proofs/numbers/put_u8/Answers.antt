use Rattle.std.proofs.Common.{refl}
use Rattle.paged_memory.proofs.BytesLemmas.{byte_written}
use Rattle.paged_memory.proofs.numbers.put_u8.Goals as goal

pub returns-clause-value : goal.returns-clause-value
returns-clause-value c =
    byte_written c.args.bytes.now.items c.args.bytes.now.items c.args.at c.args.value refl c.requires c.ranges.value.fits
