use Rattle.std.proofs.Common.{rules, ℕ, ◌+◌, sym, subst, arith}
use Rattle.std.proofs.lemmas.List.Elements.{All-nil}
use Rattle.std.specs.Prelude.{All}
use Rattle.frame_ports.specs.Addresses.{IsFrame}
use Rattle.pair_history.specs.Entries.{Frame}
use Rattle.pair_book.specs.declared.prepared.Prepared.TheVariants as prepared
use Rattle.hypervisor.specs.Runners.{RunnerState, runner_state}
use Rattle.hypervisor.specs.Runs.{HasRun}
use Rattle.hypervisor.proofs.runner.Runner.run.Goals as goal

pub invariant_of-self : goal.invariant_of-self
invariant_of-self g c =
    let r = c.self.inside in
    let made = c.run_paced-made.result in
    let old : RunnerState = runner_state r.machine r.held.items r.epoch.arrivals r.epoch.steps r.prepared r.seat in
    let new : RunnerState =
    runner_state c.run_paced-made.new.self c.clear.new.self.items (r.epoch.arrivals + c.len.result) (r.epoch.steps + made) prepared.Nothing
    r.seat in
    let run : HasRun made old new = search (arith, rules) in
    let IsOne : ℕ × Frame → Type 0 = λ x. IsFrame x.1 in
    record {
      frames = subst (All IsOne) (sym run.held) (All-nil IsOne);
      first = λ some. run.held;
      few = search (arith, rules);
      prepared = tt;
      sized = c.runs_go_on.ensures.sized old new made run c.has_records.ensures c.self.invariant.sized;
      runs = c.runs_go_on.ensures.runs old new made run c.keep.ensures c.keep_seat.ensures c.self.invariant.first c.self.invariant.runs;
    }
