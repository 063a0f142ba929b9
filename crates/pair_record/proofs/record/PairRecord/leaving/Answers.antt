use Rattle.std.proofs.Common.{◌∙◌, ap, length, List}
use Rattle.output_gate.specs.Epochs.{frames_to}
use Rattle.pair_history.specs.Entries.{Frame}
use Rattle.frame_ports.specs.Addresses.{targets_of}
use Rattle.pair_record.specs.Record.{RecordState}
use Rattle.pair_record.proofs.record.PairRecord.leaving.Goals as goal

pub returns : goal.returns
returns c =
    let s = c.args.self.now in
    let n = length s.ports.boxes in
    c.count_landings.ensures.count
    ∙ ap (λ (t : RecordState). length (targets_of (length t.ports.boxes) c.held.result.now)) c.self.view_is
    ∙ ap (λ (fs : List Frame). length (targets_of n fs)) c.held.ensures.held
    ∙ ap (λ (t : RecordState). length (targets_of n (frames_to c.args.number t.protocol.pending))) c.self.view_is
