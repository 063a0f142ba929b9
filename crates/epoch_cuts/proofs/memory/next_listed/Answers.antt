-- The pages before the next one that was written are the same.
use Rattle.std.proofs.Common.{arith}
use Rattle.epoch_snapshot.specs.laws.Pages.{changed_pages-same_between}
use Rattle.epoch_cuts.proofs.memory.next_listed.Goals as goal

pub returns-clause-same : goal.returns-clause-same
returns-clause-same c =
    changed_pages-same_between c.args.machine.now.settled c.args.machine.now.guest.ram c.args.machine.now.written c.args.from
    c.next_dirty.result c.min.result (omega (arith, c.min.ensures, c.next_dirty.ensures.first, c.requires.ordered))
    (omega (arith, c.min.ensures)) c.next_dirty.ensures.before
