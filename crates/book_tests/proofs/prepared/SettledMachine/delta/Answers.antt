use Rattle.std.proofs.Common.{◌≡◌, ap, sym, subst, ◌∙◌}
use Rattle.guest_rules.specs.Guest.{State}
use Rattle.book_tests.specs.Machines.{Repeats}
use Rattle.book_tests.proofs.Repeats.{delta-repeats}
use Rattle.book_tests.proofs.prepared.SettledMachine.delta.Goals as goal

pub returns : goal.returns
returns c =
    let is = c.deref.ensures in
    let parts = c.in_ok-checkpoint.ensures.parts in
    rw (← c.self.view_is) (subst (λ (m : State). Repeats m.guest c.in_ok-checkpoint.checkpoint) is
    (delta-repeats c.deref.result.now c.in_ok-checkpoint.checkpoint parts.version parts.pages_size parts.sectors_size
    (parts.frames ∙ ap (λ (m : State). m.outbox) is ∙ c.self.invariant.0) c.args.number c.requires.numbers.0 parts.number
    (subst (λ (m : State). m.settled ≡ m.guest.ram) (sym is) c.self.invariant.1) c.in_ok-checkpoint.ensures.image))
