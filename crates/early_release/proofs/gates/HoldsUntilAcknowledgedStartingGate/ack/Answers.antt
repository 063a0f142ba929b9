-- What lands are the held frames up to the number.
use Rattle.std.proofs.Common.{sym, subst}
use Rattle.output_gate.specs.Epochs.{frames_of, frames_to}
use Rattle.output_gate.specs.Gate.{first_held}
use Rattle.output_gate.specs.Landings.{ports_after}
use Rattle.early_release.specs.Weak.{OnlyLands}
use Rattle.early_release.proofs.WeakLemmas.{only_lands, only_lands_some, up_to_among_all}
use Rattle.early_release.proofs.gates.HoldsUntilAcknowledgedStartingGate.ack.Goals as goal

pub returns : goal.returns
returns c =
    let first = first_held c.args.self.now.gate in
    let es = c.args.self.now.gate.epochs in
    let n = c.args.number in
    let p = c.args.ports.now in
    subst (λ q. OnlyLands (frames_of es) p q) (sym c.ack.ensures.ports)
    (only_lands_some (frames_of es) (frames_to n es) p (ports_after p first (frames_to n es)) (up_to_among_all n es)
    (only_lands p first (frames_to n es)))
