-- The first part of the row is the frames of the epochs up to the number.
use Rattle.std.proofs.Common.{All, length, sym, ap, subst, arith}
use Rattle.std.proofs.Math.ListN.{length-take}
use Rattle.std.proofs.lemmas.List.Elements.{All-take}
use Rattle.frame_ports.specs.Addresses.{IsFrame}
use Rattle.output_gate.specs.Gate.{IsGate}
use Rattle.output_gate.proofs.GateLemmas.{part_is, row_is, row_few, row_frames}
use Rattle.output_gate.proofs.gate.Gate.held.Goals as goal

pub returns-clause-held : goal.returns-clause-held
returns-clause-held c =
    part_is c.self.inside c.args.self.now c.self.view_is c.self.invariant c.args.number c.epochs_to.result c.frames_in-count.result
    c.as_slice-marks.result.now c.as_slice-marks.result.now c.as_slice-marks.ensures.value c.as_slice-marks.ensures.value
    c.epochs_to.ensures c.frames_in-count.ensures c.as_slice-frames.result.now c.as_slice-frames.ensures.value

pub returns-clause-frames : goal.returns-clause-frames
returns-clause-frames c =
    All-take IsFrame c.frames_in-count.result c.as_slice-frames.result.now
    (subst (λ l. All IsFrame l) (sym c.as_slice-frames.ensures.value)
    (row_frames c.self.inside c.args.self.now c.self.view_is c.self.invariant))

pub returns-clause-most : goal.returns-clause-most
returns-clause-most c =
    omega (
      arith,
      length-take c.frames_in-count.result c.as_slice-frames.result.now,
      ap (λ l. length l) c.as_slice-frames.ensures.value,
      ap (λ l. length l) (row_is c.self.inside c.args.self.now c.self.view_is c.self.invariant),
    )

pub returns-clause-few : goal.returns-clause-few
returns-clause-few c =
    let gate : IsGate c.args.self.now = subst IsGate c.self.view_is c.self.invariant.gate in
    omega (
      arith,
      gate.few,
      row_few c.self.inside c.args.self.now c.self.view_is c.self.invariant,
      length-take c.frames_in-count.result c.as_slice-frames.result.now,
      ap (λ l. length l) c.as_slice-frames.ensures.value,
    )
