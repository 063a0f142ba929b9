use Rattle.hypervisor.proofs.Suiting.{made_suits}
use Rattle.hypervisor.proofs.runner.Runner.prepare.Goals as goal

pub invariant_of-self : goal.invariant_of-self
invariant_of-self g c = record {
  frames = c.self.invariant.frames;
  first = c.self.invariant.first;
  few = c.self.invariant.few;
  sized = c.self.invariant.sized;
  runs = record {
    settled = c.self.invariant.runs.settled;
    base = c.self.invariant.runs.base;
    runs = c.self.invariant.runs.runs;
  };
  prepared =
      made_suits c.args.want.kind c.args.want.generation c.args.want.number c.self.inside.machine _ c.in_ok-prepared.ensures;
}
