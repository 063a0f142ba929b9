use Rattle.std.proofs.Common.{ap, ◌∙◌, sym, arith}
use Rattle.virtqueue.specs.Parts.{readable_bytes, writable_places, put_at}
use Rattle.virtqueue.specs.laws.Parts.{put_none}
use Rattle.block_device.{specs.Request.request_of, proofs.RequestLemmas.other_kind}
use Rattle.block_device.proofs.storage.Storage.carry_out.Goals as goal

pub returns-in_default-clause-memory : goal.returns-in_default-clause-memory
returns-in_default-clause-memory g c =
    let ram = g.R.GuestRam.bytes c.args.ram.now in
    let r = request_of (readable_bytes ram c.args.chain.now.parts) in
    let nothing = other_kind c.args.self.now r c.args.room (λ e. omega (arith, e, c.requires.kind)) (λ e. omega (arith, e, c.requires.kind))
    (λ e. omega (arith, e, c.requires.kind)) in
    sym (ap (put_at ram (writable_places c.args.chain.now.parts)) nothing ∙ put_none ram (writable_places c.args.chain.now.parts))
