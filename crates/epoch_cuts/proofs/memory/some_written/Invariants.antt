-- Where no flag was set so far, no page so far changes.
use Rattle.std.proofs.Common.{◌≡◌, false}
use Rattle.epoch_snapshot.specs.Cuts.{changed_pages}
use Rattle.epoch_cuts.proofs.memory.some_written.Given as goal

abbrev pub invariant-loop-page : goal.invariant-loop-page
invariant-loop-page l =
    l.some ≡ false →
    changed_pages l.machine.settled l.machine.guest.ram l.page ≡ changed_pages l.machine.settled l.machine.guest.ram l.from
