-- Whole steps compute from boot.
use Rattle.std.proofs.Common.{refl}
use Rattle.rv64_core.specs.Rows.{table, decoded}
use Rattle.rv64_core.specs.Meaning.{plan_of}
use Rattle.mtraps.specs.CsrTable.{csr_table, csr, read_value, is_writable, written, legal_value}
use Rattle.mtraps.specs.Interrupts.{due_interrupt}
use Rattle.mtraps.specs.Traps.{after_entry, after_return, handler}
use Rattle.guest_rules.specs.Runs.{after_steps}
use Rattle.paged_memory.specs.Bytes.{number_at, with_number}
use Rattle.guest_examples.specs.Examples.{words_guest}
use Rattle.guest_rules.specs.Guest.{boot_guest}
use Rattle.guest_rules.specs.Pending.{mip}
use Rattle.guest_rules.specs.Step.{carried_out, instruction_done, step_done, next}
use Rattle.guest_examples.proofs.laws.timer_interrupts.Goals as goal

pub returns : goal.returns
unfolding table decoded plan_of csr_table csr read_value is_writable written legal_value due_interrupt after_entry after_return handler
    after_steps number_at with_number words_guest boot_guest mip carried_out instruction_done step_done next
returns c = record {
  cause = refl;
  value = refl;
  from = refl;
  disabled = refl;
  pc = refl;
  steps = refl;
  once = refl;
}
