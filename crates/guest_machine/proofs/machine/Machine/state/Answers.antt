use Rattle.std.proofs.Common.{rules, ◌≡◌, subst}
use Rattle.rv64_core.specs.Registers.{AreRegisters}
use Rattle.guest_rules.specs.declared.machine_state.MachineState.{MachineState}
use Rattle.guest_rules.specs.Guest.{State}
use Rattle.guest_rules.specs.MachineStates.{state_of}
use Rattle.guest_machine.proofs.StateLemmas.{same_with_state}
use Rattle.guest_machine.proofs.machine.Machine.state.Goals as goal

pub returns-clause-whole : goal.returns-clause-whole
returns-clause-whole c =
    let AreWhole : State → Type 0 = λ m. AreRegisters m.guest.regs in
    let s : MachineState = record {
      steps = c.self.inside.hart.steps;
      registers = c.registers.result;
      pc = c.self.inside.hart.pc;
      csrs = c.values.result;
      msip = c.from.result;
      mtimecmp = c.self.inside.hart.mtimecmp;
      net = c.net.result;
      disk = c.disk.result;
    } in
    let is : s ≡ state_of c.args.self.now.guest = search rules in
    same_with_state c.args.self.now.guest s is (subst AreWhole c.self.view_is c.registers.ensures.registers)
