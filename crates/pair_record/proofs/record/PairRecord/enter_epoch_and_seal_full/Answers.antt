use Rattle.std.proofs.Common.{arith, ◌≡◌, ◌∙◌, [], length, ap}
use Rattle.frame_ports.specs.Numbers.{renumbered}
use Rattle.pair_history.specs.Journal.{Journal, all_entries}
use Rattle.pair_record.specs.internal.RecordFields.{record_state}
use Rattle.pair_history.specs.laws.Epochs.{all-entered}
use Rattle.pair_record.specs.laws.Numbers.{lone_came, lone_ports}
use Rattle.pair_record.specs.laws.Records.{none_yet}
use Rattle.pair_record.specs.laws.Tables.{passed, has_room_for}
use Rattle.pair_record.proofs.record.PairRecord.enter_epoch_and_seal_full.Goals.{After-next}
use Rattle.pair_record.proofs.record.PairRecord.enter_epoch_and_seal_full.Goals as goal

pub land-landed-requires-clause-fits : goal.land-landed-requires-clause-fits
land-landed-requires-clause-fits c =
    let s = record_state c.self.inside in
    let free = rw (← c.self.view_is) at c.requires.free in
    let room = has_room_for s.protocol _ (passed _ _ _ free).0 in
    let entered = ap (λ (j : Journal). length (all_entries j)) c.in_ok-enter_epoch_and_seal_empty.ensures.ok
    ∙ all-entered c.args.arrivals c.args.steps s.protocol.journal in
    omega arith

-- nothing is pending
none : (c : After-next) → c.self.inside.gate.epochs ≡ []
none c =
    none_yet (record_state c.self.inside).protocol c.self.invariant.is (rw (← c.self.view_is) at c.requires.filling)
    (rw (← c.self.view_is) at c.requires.first)

pub land-landed-requires-clause-new : goal.land-landed-requires-clause-new
land-landed-requires-clause-new c =
    let s = record_state c.self.inside in
    lone_came s.protocol s.ports c.self.invariant.numbers c.next.result c.args.frames.now c.next.ensures.next
    (none (goal.at.land-landed-requires-clause-new c).After-next)

pub returns-clause-ports : goal.returns-clause-ports
returns-clause-ports c =
    let s = record_state c.self.inside in
    let landed = c.land-landed.ensures.ports
    ∙ lone_ports s.protocol s.ports c.self.invariant.numbers c.next.result c.args.frames.now c.next.ensures.next
    (none (goal.at.returns-clause-ports c).After-next) in
    rw (← c.self.view_is) (c.renumber.ensures ∙ ap renumbered landed)
