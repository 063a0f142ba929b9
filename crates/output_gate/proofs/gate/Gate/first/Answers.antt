-- The held frames are fewer than the next number.
use Rattle.std.proofs.Common.{List, ℕ, length, ap, arith}
use Rattle.arrayvec.specs.ArrayVec.{ArrayVec}
use Rattle.output_gate.proofs.GateLemmas.{row_is, row_numbers, next_seen}
use Rattle.output_gate.proofs.gate.Gate.first.Goals as goal

pub overflow_sub-result : goal.overflow_sub-result
overflow_sub-result c = omega (arith, c.len.ensures, (row_numbers c.self.inside c.args.self.now c.self.view_is c.self.invariant).0)

pub returns-clause-first : goal.returns-clause-first
returns-clause-first c =
    omega (
      arith,
      c.len.ensures,
      ap (λ (l : List (ArrayVec ℕ)). length l) (row_is c.self.inside c.args.self.now c.self.view_is c.self.invariant),
      next_seen c.self.inside c.args.self.now c.self.view_is c.self.invariant,
    )

pub returns-clause-bound : goal.returns-clause-bound
returns-clause-bound c =
    omega (
      arith,
      c.len.ensures,
      ap (λ (l : List (ArrayVec ℕ)). length l) (row_is c.self.inside c.args.self.now c.self.view_is c.self.invariant),
      (row_numbers c.self.inside c.args.self.now c.self.view_is c.self.invariant).0,
      (row_numbers c.self.inside c.args.self.now c.self.view_is c.self.invariant).1,
    )
