use Rattle.std.proofs.Common.{◌≡◌, ◌∙◌, length, ap, sym, Bool, cond, Some, None}
use Rattle.pair_record.specs.declared.event.Refusal.TheVariants.{Exhausted}
use Rattle.frame_ports.specs.Addresses.{targets_of}
use Rattle.pair_record.specs.Record.{RecordState}
use Rattle.pair_record.specs.{EpochActs.enter_epoch_refusals, Protocol.{frames_run_out, first_refusal}}
use Rattle.pair_record.proofs.AloneLaws.{enter_row}
use Rattle.pair_record.proofs.record.PairRecord.enter_epoch_refusal.Goals.{After-is_exhausted_by}
use Rattle.pair_record.proofs.record.PairRecord.enter_epoch_refusal.Goals as goal

-- the table, by the first test
table : (c : After-is_exhausted_by)
    → cond c.is_exhausted_by.result (Some Exhausted) (cond (frames_run_out c.args.self.now.protocol) (Some Exhausted) None)
    ≡ first_refusal (enter_epoch_refusals c.args.steps c.args.self.now.ports.boxes c.args.frames.now c.args.self.now.protocol)
table c =
    let s = c.args.self.now in
    enter_row s.ports.boxes s.protocol c.args.steps c.count_landings.result c.saturating_add-entries.result c.args.frames.now
    c.is_exhausted_by.result
    (c.count_landings.ensures.count ∙ ap (λ (t : RecordState). length (targets_of (length t.ports.boxes) c.args.frames.now)) c.self.view_is)
    c.saturating_add-entries.ensures c.is_exhausted_by.ensures

pub returns-then-is_exhausted_by : goal.returns-then-is_exhausted_by
returns-then-is_exhausted_by c =
    let s = c.args.self.now in
    ap (λ (t : Bool). cond t (Some Exhausted) (cond (frames_run_out s.protocol) (Some Exhausted) None)) (sym c.if-is_exhausted_by.true)
    ∙ table (goal.at.returns-then-is_exhausted_by c).After-is_exhausted_by

pub returns-then-frames_run_out : goal.returns-then-frames_run_out
returns-then-frames_run_out c =
    (λ i. cond (sym c.if-is_exhausted_by.false i) (Some Exhausted) (cond ((sym c.if-frames_run_out.true ∙ c.frames_run_out.ensures) i) (Some Exhausted) None))
    ∙ table (goal.at.returns-then-frames_run_out c).After-is_exhausted_by

pub returns-else-frames_run_out : goal.returns-else-frames_run_out
returns-else-frames_run_out c =
    (λ i. cond (sym c.if-is_exhausted_by.false i) (Some Exhausted) (cond ((sym c.if-frames_run_out.false ∙ c.frames_run_out.ensures) i) (Some Exhausted) None))
    ∙ table (goal.at.returns-else-frames_run_out c).After-is_exhausted_by
