use Rattle.std.proofs.Common.{ap, arith, List, length}
use Rattle.pair_history.specs.Entries.{Frame}
use Rattle.pair_record.specs.internal.RecordFields.{record_state}
use Rattle.pair_record.specs.laws.Numbers.{in_two}
use Rattle.pair_record.proofs.record.PairRecord.last_committed.Goals as goal

pub returns-clause-last : goal.returns-clause-last
returns-clause-last c =
    let r = (record_state c.self.inside).protocol in
    let owed = ap (λ (fs : List Frame). length fs) c.committed_frames-owed.ensures.held in
    let two = in_two r in
    let held = c.self.invariant.numbers.held in
    let first = c.first.ensures.first in
    rw (← c.self.view_is) (omega arith)

pub returns-clause-limit : goal.returns-clause-limit
returns-clause-limit c =
    let r = (record_state c.self.inside).protocol in
    let owed = ap (λ (fs : List Frame). length fs) c.committed_frames-owed.ensures.held in
    let two = in_two r in
    let held = c.self.invariant.numbers.held in
    let left = c.self.invariant.numbers.left in
    let first = c.first.ensures.first in
    omega arith
