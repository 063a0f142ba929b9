use Rattle.std.proofs.Common.{rules}
use Rattle.book_tests.proofs.members.Backup.go_live.Goals as goal

pub go_live-requires-clause-stands : goal.go_live-requires-clause-stands
go_live-requires-clause-stands g c = rw c.as_slice.ensures.value (c.self.invariant.1 (search rules))
