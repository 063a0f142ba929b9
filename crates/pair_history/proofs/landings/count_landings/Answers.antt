use Rattle.std.proofs.{Common.{List, length, ap, ◌∙◌, arith}, lemmas.List.drop_all}
use Rattle.frame_ports.specs.Addresses.{targets_of, clients_of}
use Rattle.pair_history.specs.Entries.{Frame}
use Rattle.pair_history.proofs.LengthLaws.{targets-more}
use Rattle.pair_history.proofs.landings.count_landings.Goals as goal

pub loop-frame-preserved : goal.loop-frame-preserved
loop-frame-preserved c =
    let n = length c.args.ports.now.boxes in
    let more = targets-more n c.args.frames.now c.loop-frame.frame-index c.frame-item.result (omega arith) c.frame-item.is in
    let one = ap length (c.as_slice.ensures.value ∙ c.receivers_of-clients.ensures.clients ∙ ap (clients_of n) c.as_slice-bytes.ensures.value) in
    let few = c.receivers_of-clients.ensures.few in
    let same = ap length c.as_slice.ensures.value in
    let v = c.loop-frame.invariant in
    record { few = omega arith; counted = omega arith }

pub returns-clause-count : goal.returns-clause-count
returns-clause-count c =
    let n = length c.args.ports.now.boxes in
    let none = ap (λ (gs : List Frame). length (targets_of n gs)) (drop_all c.loop-frame.frame-index c.args.frames.now (omega arith)) in
    let v = c.loop-frame.invariant in
    omega arith
