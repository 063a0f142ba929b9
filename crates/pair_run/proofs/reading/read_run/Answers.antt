use Rattle.std.proofs.Common.{ap, arith, subst}
use Rattle.pair_run.specs.{RunFile.{ends, lacks_boot, lacks_epochs}, internal.Reading.stage_of}
use Rattle.pair_run.proofs.ReadingLemmas.{IsWithin, at-line, ended-file, fewer-lines, given-up-as, one-line, still-within}
use Rattle.pair_run.proofs.reading.read_run.Goals as goal

pub returns-in_err-stage-clause-means : goal.returns-in_err-stage-clause-means
returns-in_err-stage-clause-means c =
    let split = at-line c.loop-left.left c.in-Some.text c.in-Some.is _ c.first_line.result.1 c.first_line.ensures.lines in
    given-up-as c.args.source.now (stage_of c.loop-left.stage) c.loop-left.count c.first_line.result.0.now _ _ split
    c.loop-left.invariant.1 c.in_err-stage.field-0.0 c.in_err-stage.ensures c.from_residual.result c.from_residual.ensures.1

pub loop-left-preserved : goal.loop-left-preserved
loop-left-preserved c =
    let few = fewer-lines c.loop-left.left c.in-Some.text c.in-Some.is c.first_line.result.1 c.first_line.ensures.shorter in
    let count = c.loop-left.invariant.0 in
    let split = at-line c.loop-left.left c.in-Some.text c.in-Some.is _ c.first_line.result.1 c.first_line.ensures.lines in (
      omega arith,
      one-line c.args.source.now (stage_of c.loop-left.stage) c.loop-left.count c.first_line.result.0.now _ _ split c.loop-left.invariant.1
          (stage_of c.in_ok-stage.stage) c.in_ok-stage.ensures,
      still-within (stage_of c.loop-left.stage) c.first_line.result.0.now (stage_of c.in_ok-stage.stage) c.in_ok-stage.ensures
          c.loop-left.invariant.2,
    )

pub returns-in-Told-clause-means : goal.returns-in-Told-clause-means
returns-in-Told-clause-means c =
    ended-file c.args.source.now c.loop-left.invariant.1 c.in_default.is (ap stage_of c.in-Told.is) (ends _ c.loop-left.count)

pub returns-in-Told-clause-limits : goal.returns-in-Told-clause-limits
returns-in-Told-clause-limits c =
    subst IsWithin (ap stage_of c.in-Told.is) c.loop-left.invariant.2

pub returns-in-Unbooted-clause-means : goal.returns-in-Unbooted-clause-means
returns-in-Unbooted-clause-means c =
    ended-file c.args.source.now c.loop-left.invariant.1 c.in_default.is (ap stage_of c.in-Unbooted.is) (lacks_boot c.loop-left.count)

pub returns-clause-means : goal.returns-clause-means
returns-clause-means c =
    ended-file c.args.source.now c.loop-left.invariant.1 c.in_default.is (ap stage_of c.in-Booted.is) (lacks_epochs _ c.loop-left.count)
