use Rattle.std.proofs.{Common.{◌/◌, arith}, lemmas.List.get_or_read}
use Rattle.block_device.proofs.SetLemmas.{bit_set}
use Rattle.block_device.proofs.dirty.set_bit.Goals as goal

pub returns-clause-bits : goal.returns-clause-bits
returns-clause-bits c =
    let word = get_or_read c.args.bits.now.items (c.args.sector / 64) c.index_mut.result.now (omega arith) c.index_mut.ensures.value 0 in
    bit_set c.args.bits.now.items c.args.sector c.index_mut.result.now word c.requires
