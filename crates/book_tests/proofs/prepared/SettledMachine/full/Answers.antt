use Rattle.std.proofs.Common.{subst}
use Rattle.guest_rules.specs.Guest.{State}
use Rattle.book_tests.specs.Machines.{Repeats}
use Rattle.book_tests.proofs.Repeats.{full-repeats}
use Rattle.book_tests.proofs.prepared.SettledMachine.full.Goals as goal

pub returns : goal.returns
returns c =
    let parts = c.in_ok-checkpoint.ensures.parts in
    rw (← c.self.view_is) (subst (λ (m : State). Repeats m.guest c.in_ok-checkpoint.checkpoint) c.deref.ensures
    (full-repeats c.deref.result.now c.in_ok-checkpoint.checkpoint parts.version parts.pages_size parts.sectors_size parts.frames
    c.in_ok-checkpoint.ensures.image))
