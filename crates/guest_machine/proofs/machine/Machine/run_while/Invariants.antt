use Rattle.std.proofs.Common.{◌≡◌, ◌-◌, ◌≤◌}
use Rattle.guest_rules.specs.Aligned.{IsAligned}
use Rattle.guest_rules.specs.Flags.{KeepsFlags}
use Rattle.guest_machine.specs.PageOps.{AreDecoded}
use Rattle.guest_machine.specs.Parts.{guest_of, state_with}
use Rattle.guest_rules.specs.laws.Runs.{IsRun, IsFewBefore}
use Rattle.guest_machine.proofs.machine.Machine.run_while.Given as goal

abbrev pub invariant-loop-made : goal.invariant-loop-made
invariant-loop-made l = record {
  most : l.made ≤ l.count;
  run :
      IsRun l.made l.fn.self
      (state_with l.self-inside.hart l.self-inside.ram.memory l.self-inside.devices l.self-inside.outbox);
  flags : KeepsFlags l.fn.self.written l.self-inside.ram.memory.written;
  before : IsFewBefore l.limit l.made l.fn.self;
  unchanged : l.made ≡ 0 → state_with l.self-inside.hart l.self-inside.ram.memory l.self-inside.devices l.self-inside.outbox ≡ l.fn.self;
  aligned : IsAligned (guest_of l.self-inside.hart l.self-inside.ram.memory.bytes l.self-inside.devices);
  decoded : AreDecoded l.self-inside.ram.memory.settled l.self-inside.pages.owners.items l.self-inside.pages.pool.items;
}

abbrev pub decreases-loop-made : goal.decreases-loop-made
decreases-loop-made l = l.count - l.made
