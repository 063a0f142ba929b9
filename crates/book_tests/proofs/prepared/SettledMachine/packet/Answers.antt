use Rattle.std.proofs.Common.{sym, subst}
use Rattle.epoch_snapshot.specs.Checkpoints.{Change}
use Rattle.book_tests.specs.Machines.{Repeats}
use Rattle.book_tests.proofs.Repeats.{text-made}
use Rattle.book_tests.proofs.prepared.SettledMachine.packet.Goals as goal

pub returns-in-Ok : goal.returns-in-Ok
returns-in-Ok c = λ start like.
    text-made start _ _ c.in-Ok.packet like
    (subst (λ (x : Change). Repeats c.args.self.now x) (sym c.deref.ensures) c.in_ok-checkpoint.ensures)
    c.in-Ok.ensures.read c.in-Ok.ensures.number
