use Rattle.std.proofs.Common.{◌+◌, ◌∙◌, List, length, ap}
use Rattle.pair_history.specs.Entries.{Frame}
use Rattle.frame_ports.specs.Addresses.{targets_of}
use Rattle.pair_record.specs.Protocol.{all_held}
use Rattle.pair_record.specs.Record.{RecordState}
use Rattle.pair_record.specs.internal.RecordFields.{record_state}
use Rattle.pair_record.proofs.AloneLaws.{held_are, count-all}
use Rattle.pair_record.proofs.record.PairRecord.count_all.Goals as goal

pub returns : goal.returns
returns c =
    let a = c.self.inside in
    let r = (record_state a).protocol in
    let n = length a.ports.boxes in
    let outbox = c.args.outbox.now in
    let held =
    c.count_landings.ensures.count
    ∙ ap (λ (fs : List Frame). length (targets_of n fs)) (c.held-held.ensures.held ∙ held_are r c.self.invariant.is) in
    let sent = c.count_landings-2.ensures.count in
    (λ i. held i + sent i) ∙ count-all a.ports.boxes outbox r
    ∙ ap (λ (s : RecordState). length (all_held s.ports.boxes outbox s.protocol)) c.self.view_is
