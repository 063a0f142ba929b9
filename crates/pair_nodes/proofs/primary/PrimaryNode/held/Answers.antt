-- All that is pending has numbers below the next one.
use Rattle.std.proofs.Common.{◌-◌, ◌∙◌, ap, length, arith}
use Rattle.output_gate.specs.Epochs.{frames_of}
use Rattle.pair_record.specs.laws.Windows.{frames_to-all}
use Rattle.pair_nodes.specs.Flagged.{Flagged}
use Rattle.pair_nodes.proofs.Pending.{frames_few}
use Rattle.pair_nodes.proofs.primary.PrimaryNode.held.Goals as goal

pub returns-clause-value : goal.returns-clause-value
returns-clause-value c =
    let es = c.self.inside.gate.epochs in
    c.held.ensures.held
    ∙ frames_to-all c.self.inside.to_cut (c.self.inside.to_cut - length es) es c.self.invariant.numbered (omega (arith, c.self.invariant.most))
    ∙ ap (λ (p : Flagged). frames_of p.primary.pending) c.self.view_is

pub returns-clause-few : goal.returns-clause-few
returns-clause-few c =
    omega (arith, c.held.ensures.most, frames_few c.self.inside.gate.epochs c.held.ensures.gate.epochs, c.self.invariant.few)
