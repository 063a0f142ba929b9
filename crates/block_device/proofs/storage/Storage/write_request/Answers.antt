use Rattle.std.proofs.Common.{◌≡◌, true, ap, ◌∙◌, sym, arith}
use Rattle.block_device.{specs.Contents.in_capacity, proofs.RequestLemmas.{write_done, write_fails}}
use Rattle.block_device.proofs.storage.Storage.write_request.Goals as goal

pub returns-then-not-in_capacity-clause-status : goal.returns-then-not-in_capacity-clause-status
returns-then-not-in_capacity-clause-status g c =
    sym (ap (λ o. o.status) (write_fails c.args.self.now c.args.sector c.args.len (g.R.GuestRam.bytes c.args.ram.now) c.args.chain.now.parts
    c.requires.inside c.requires.all (grind (arith, c.in_capacity.ensures))))

pub returns-then-not-in_capacity-clause-disk : goal.returns-then-not-in_capacity-clause-disk
returns-then-not-in_capacity-clause-disk g c =
    sym (ap (λ o. o.disk) (write_fails c.args.self.now c.args.sector c.args.len (g.R.GuestRam.bytes c.args.ram.now) c.args.chain.now.parts
    c.requires.inside c.requires.all (grind (arith, c.in_capacity.ensures))))

pub returns-clause-status : goal.returns-clause-status
returns-clause-status g c =
    sym (ap (λ o. o.status) (write_done c.args.self.now c.args.sector c.args.len (g.R.GuestRam.bytes c.args.ram.now) c.args.chain.now.parts
    c.requires.inside c.requires.all (grind (arith, c.in_capacity.ensures))))

pub returns-clause-disk : goal.returns-clause-disk
returns-clause-disk g c =
    let fits : in_capacity c.args.self.now c.args.sector c.args.len ≡ true = grind (arith, c.in_capacity.ensures) in
    c.write.ensures ∙ sym (ap (λ o. o.disk) (write_done c.args.self.now c.args.sector c.args.len (g.R.GuestRam.bytes c.args.ram.now)
    c.args.chain.now.parts c.requires.inside c.requires.all fits))
