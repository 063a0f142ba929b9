use Rattle.std.proofs.Common.{arith}
use Rattle.guest_machine.proofs.PlaceLemmas.{place_at}
use Rattle.guest_machine.proofs.places.aligned_place.Goals as goal

pub returns-then-number-size-clause-place : goal.returns-then-number-size-clause-place
returns-then-number-size-clause-place c = place_at c.args.address _ _ (omega arith) (omega arith) (omega arith)

pub returns-then-number-size-2-clause-place : goal.returns-then-number-size-2-clause-place
returns-then-number-size-2-clause-place c = place_at c.args.address _ _ (omega arith) (omega arith) (omega arith)

pub returns-then-number-size-3-clause-place : goal.returns-then-number-size-3-clause-place
returns-then-number-size-3-clause-place c = place_at c.args.address _ _ (omega arith) (omega arith) (omega arith)

pub returns-then-number-size-4-clause-place : goal.returns-then-number-size-4-clause-place
returns-then-number-size-4-clause-place c = place_at c.args.address _ _ (omega arith) (omega arith) (omega arith)
