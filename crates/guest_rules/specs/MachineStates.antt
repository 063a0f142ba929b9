-- What a checkpoint states whole of a guest: all but the bytes of its memory and of its disk.
use Rattle.std.specs.Prelude.{◌≡◌, ◌%◌, ◌≤◌, ◌∷◌, drop}
use Rattle.mtraps.specs.CsrTable.{IsLegal}
use Rattle.virtio_mmio.specs.declared.kinds.DeviceKind.TheVariants.{Network, Block}
use Rattle.virtio_mmio.specs.States.{IsDeviceRecord}
use Rattle.guest_rules.specs.declared.machine_state.MachineState.{MachineState}
use Rattle.guest_rules.specs.Guest.{Guest}

-- that part of a guest: x1 to x31, since x0 is always 0
abbrev pub state_of : Guest → MachineState
state_of g = record {
  steps = g.steps;
  registers = drop 1 g.regs;
  pc = g.pc;
  csrs = g.csrs;
  msip = g.msip;
  mtimecmp = g.mtimecmp;
  net = g.net;
  disk = g.disk;
}

-- the guest with that part replaced: its memory and its sectors stay
abbrev pub with_state : Guest → MachineState → Guest
with_state g s = record g {
  steps = s.steps;
  regs = 0 ∷ s.registers;
  pc = s.pc;
  csrs = s.csrs;
  msip = s.msip;
  mtimecmp = s.mtimecmp;
  net = s.net;
  disk = s.disk;
}

-- what is true of that part of each guest from boot on: instructions have 4 bytes (the Unprivileged ISA, "Base Instruction
-- Formats"), each CSR holds a value that a write leaves as it is, msip is one bit, and both devices' records meet the rules of
-- records. The disk's capacity plays no part in these rules, so any stands here
pub record IsMachineState (s : MachineState) : Type 0 where
  pub pc : s.pc % 4 ≡ 0
  pub csrs : IsLegal s.csrs
  pub msip : s.msip ≤ 1
  pub net : IsDeviceRecord Network s.net
  pub disk : IsDeviceRecord (Block 0) s.disk
