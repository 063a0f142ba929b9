use Rattle.hypervisor.proofs.RunningOn.{runs-after}
use Rattle.hypervisor.proofs.RunSizes.{GuestLaws, sized-after, base-after}
use Rattle.hypervisor.proofs.runner.runs_go_on.Given.{Over}
use Rattle.hypervisor.proofs.runner.runs_go_on.Goals as goal

laws : (g : Over) (c : goal.After-devices_apart g) → GuestLaws
laws g c = record {
  bytes = c.kept_memory.ensures.bytes;
  records = c.kept_memory.ensures.rules;
  bytes_at_arrival = λ m f r. c.kept_memory.ensures.bytes_at_arrival m f r.net;
  records_at_arrival = c.kept_memory.ensures.rules_at_arrival;
  disk = c.kept_disk.ensures.bytes;
  disk_at_arrival = λ m f. (c.devices_apart.ensures.arrival m f).1;
  others = λ n m dirty i none. (c.changed_sectors_are_listed.ensures.run n m dirty).others i none;
  stays = λ n m dirty i there. (c.changed_sectors_are_listed.ensures.run n m dirty).stays i there;
}

pub returns-clause-sized : goal.returns-clause-sized
returns-clause-sized g c = λ old new made run records sized. sized-after (laws g c) made old new run g.P.Pair.start records sized

pub returns-clause-runs : goal.returns-clause-runs
returns-clause-runs g c = λ old new made run reached legal first was.
    let unmarked = c.unmarked_histories_are_legal.ensures in
    let start = g.P.Pair.start in
    record {
      settled = was.settled;
      base = base-after (laws g c) made old new run was.settled was.base;
      runs =
          runs-after start old reached c.reached_states.ensures.goes_on (λ none. unmarked.legal start old.seat.steps legal none)
          (unmarked.stands start old.seat.steps) first was.settled was.runs made new run;
    }
