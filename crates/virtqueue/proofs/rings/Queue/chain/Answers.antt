use Rattle.std.proofs.Common.{sym, false}
use Rattle.virtqueue.proofs.Inside.{spelled_inside}
use Rattle.virtqueue.proofs.rings.Queue.chain.Goals as goal

pub returns-clause-inside : goal.returns-clause-inside
returns-clause-inside g c =
    spelled_inside c.args.self.now (g.R.GuestRam.bytes c.args.ram.now) c.args.self.now.num false _ c.in_ok-parts.parts.items
    (sym c.in_ok-parts.ensures)
