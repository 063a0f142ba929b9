use Rattle.std.proofs.Common.{rules}
use Rattle.std.proofs.Common.{arith, ◌∙◌, List, refl, sym, ap, subst, None}
use Rattle.failover.specs.declared.mode.Mode.TheVariants.{Alone}
use Rattle.pair_history.specs.Entries.{Frame}
use Rattle.pair_record.specs.Protocol.{Outcome, fail_backup_refusals, fail_backup_done}
use Rattle.pair_record.specs.declared.event.Event.TheVariants.{FailBackup}
use Rattle.pair_core.specs.{Invariant.Holds, Nodes.left_alone}
use Rattle.pair_record.specs.{Record.ports_after_all, Window.none_pending}
use Rattle.pair_core.specs.internal.WorldFields.{pair_of}
use Rattle.pair_record.specs.laws.Modes.{failure_goes}
use Rattle.pair_core.specs.laws.{AllLands.all_landed_holds, Consistent.some_cut}
use Rattle.pair_core.specs.laws.Outcomes.{ByTable, done_by_table, refused_by_table, wanted_by_table, fail_backup_by_table}
use Rattle.pair_core.proofs.Calls.{on_err}
use Rattle.std.specs.Prelude.{⊤}
use Rattle.pair_core.proofs.world.World.fail_backup.Goals.{After-fail_backup}
use Rattle.pair_core.proofs.world.World.fail_backup.Goals as goal

-- the event by its table, at what is lent of the live machine's outbox
by_the_table : (c : After-fail_backup) → ByTable (pair_of c.self.inside) None FailBackup
    (fail_backup_refusals (pair_of c.self.inside).ports.boxes c.outbox.result.now (pair_of c.self.inside).protocol.state) ⊤
    (fail_backup_done (pair_of c.self.inside).ports.boxes c.outbox.result.now (pair_of c.self.inside).protocol.state)
by_the_table c =
    let w = pair_of c.self.inside in
    subst (λ (fs : List Frame). ByTable w None FailBackup (fail_backup_refusals w.ports.boxes fs w.protocol.state) ⊤
    (fail_backup_done w.ports.boxes fs w.protocol.state)) (sym c.outbox.ensures.value) (fail_backup_by_table w c.self.invariant)

pub fail_backup-requires-clause-sealed : goal.fail_backup-requires-clause-sealed
fail_backup-requires-clause-sealed c =
    let w = pair_of c.self.inside in
    let two = failure_goes w.protocol.state.mode (rw (← c.self.view_is) at c.requires) in
    some_cut w c.self.invariant c.keep.ensures.record two

pub returns : goal.returns
returns c = (
  (let table = by_the_table (goal.at.returns c).After-fail_backup in
      rw (← c.self.view_is) (refused_by_table table c.in-Err.why _ _ c.in-Err.ensures.why c.in_ok-why-in-Err.ensures.same
      c.in_ok-why-in-Err.ensures.other c.in-Err.ensures.refused.0)),
  search rules,
  search rules,
  search rules,
)

pub returns-in_err-why-in-Err : goal.returns-in_err-why-in-Err
returns-in_err-why-in-Err c = (
  search rules,
  search rules,
  (let table = by_the_table (goal.at.returns-in_err-why-in-Err c).After-fail_backup in
      rw (← c.self.view_is) (on_err _ _ (wanted_by_table table c.in-Err.why _ c.in-Err.ensures.why c.in_err-why-in-Err.ensures.memory))),
  search rules,
)

pub invariant_of-self : goal.invariant_of-self
invariant_of-self c =
    let w = pair_of c.self.inside in
    let b = w.ports.boxes in
    let protocol = ap (λ (o : Outcome). o.1) c.in-Ok.ensures.ok
    ∙ ap (λ (fs : List Frame). (fail_backup_done b fs w.protocol.state).1) c.outbox.ensures.value in
    let ports = c.in-Ok.ensures.ports ∙ ap (λ (fs : List Frame). ports_after_all w.ports fs w.protocol.state) c.outbox.ensures.value in
    subst Holds (λ i. record w { protocol = record w.protocol { state = sym protocol i }; ports = sym ports i; nodes = sym c.leave_alone.ensures i })
    (all_landed_holds w (c.self.invariant.accords, c.self.invariant.nodes, c.self.invariant.lines, c.self.invariant.kept) Alone refl (none_pending w.protocol.state.window.to_cut) (left_alone w.nodes) refl refl (omega arith)
    (let cut = c.keep.ensures.record.window.cut in omega arith))

pub returns-in-Ok : goal.returns-in-Ok
returns-in-Ok c = (
  (let table = by_the_table (goal.at.returns-in-Ok c).After-fail_backup in
      rw (← c.self.view_is) (c.in-Ok.ensures.ok ∙ done_by_table table c.in-Ok.ensures.free)),
  search rules,
  search rules,
  search rules,
)
