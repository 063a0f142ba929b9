-- What lands are the frames that were just held, and those held before.
use Rattle.std.proofs.Common.{sym, subst, ◌∙◌, ap, ◌++◌}
use Rattle.output_gate.specs.Epochs.{frames_of}
use Rattle.output_gate.specs.Gate.{GateState, first_held}
use Rattle.output_gate.specs.Landings.{ports_after}
use Rattle.early_release.specs.Weak.{OnlyLands}
use Rattle.early_release.proofs.WeakLemmas.{only_lands, frames_of-push}
use Rattle.early_release.proofs.gates.LandsAtOnceStartingGate.hold.Goals as goal

pub returns : goal.returns
returns c =
    let es = c.args.self.now.gate.epochs in
    let fs = frames_of es ++ c.args.frames.now in
    let p = c.args.ports.now in
    let first = first_held c.hold.new.self in
    let all = ap (λ (g : GateState). frames_of g.epochs) c.hold.ensures ∙ frames_of-push es c.args.number c.args.frames.now in
    subst (λ q. OnlyLands fs p q) (sym (c.open_all.ensures.ports ∙ ap (ports_after p first) all)) (only_lands p first fs)
