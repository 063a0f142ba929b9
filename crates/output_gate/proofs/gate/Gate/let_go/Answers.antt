-- The first part of the row goes, and the rest stays under its own numbers.
use Rattle.std.proofs.Common.{rules, refl, arith}
use Rattle.output_gate.proofs.GateLemmas.{part_count, rest_state, rest_fields}
use Rattle.output_gate.proofs.gate.Gate.let_go.Goals as goal

pub invariant_of-self : goal.invariant_of-self
invariant_of-self c =
    rest_fields c.self.inside c.args.self.now c.self.view_is c.self.invariant c.args.number
    c.epochs_to-epochs.result c.frames_in-count.result
    c.as_slice-marks.result.now c.as_slice-marks.result.now c.as_slice-marks.ensures.value c.as_slice-marks.ensures.value
    c.epochs_to-epochs.ensures c.frames_in-count.ensures _
    (search (arith, rules)) (search (arith, rules)) refl (search (arith, rules)) (search (arith, rules))

pub returns-clause-gate : goal.returns-clause-gate
returns-clause-gate c =
    rest_state c.self.inside c.args.self.now c.self.view_is c.self.invariant c.args.number c.epochs_to-epochs.result c.frames_in-count.result
    c.as_slice-marks.result.now c.as_slice-marks.result.now c.as_slice-marks.ensures.value c.as_slice-marks.ensures.value
    c.epochs_to-epochs.ensures c.frames_in-count.ensures _ _ (search (arith, rules)) (search (arith, rules))

pub returns-clause-count : goal.returns-clause-count
returns-clause-count c =
    part_count c.self.inside c.args.self.now c.self.view_is c.self.invariant c.args.number c.epochs_to-epochs.result c.frames_in-count.result
    c.as_slice-marks.result.now c.as_slice-marks.result.now c.as_slice-marks.ensures.value c.as_slice-marks.ensures.value
    c.epochs_to-epochs.ensures c.frames_in-count.ensures
