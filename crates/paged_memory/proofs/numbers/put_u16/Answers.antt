use Rattle.std.proofs.Common.{refl}
use Rattle.paged_memory.proofs.BytesLemmas.{written}
use Rattle.paged_memory.proofs.numbers.put_u16.Goals as goal

pub returns-clause-value : goal.returns-clause-value
returns-clause-value c =
    let v = c.args.bytes.now in
    written v.items v.items c.as_mut_slice-all.result.now c.write_u16.new.buf v.len c.args.at 2 c.args.value refl
    c.as_mut_slice-all.ensures.value v.ok.0 c.requires refl c.write_u16.ensures
