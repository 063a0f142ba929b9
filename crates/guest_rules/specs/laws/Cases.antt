-- What a step can leave, case by case: a property that each case has is a property of every step.
use Rattle.std.proofs.Common.{◌≡◌, ℕ, ◌+◌, ◌%◌, ◌≤◌, ◌==◌, nat_le, Bool, true, false, if◌then◌else◌, List, length, Option, Some, None, refl}
use Rattle.std.proofs.lemmas.Bool.{leb-true}
use Rattle.rv64_core.specs.declared.instruction.Instr.{Instr}
use Rattle.rv64_core.specs.declared.operations.CsrOp.{CsrOp}
use Rattle.rv64_core.specs.declared.plans.Plan.{Plan}
use Rattle.rv64_core.specs.declared.plans.Plan.TheVariants as does
use Rattle.rv64_core.specs.Meaning.{GoesOnAligned}
use Rattle.rv64_core.specs.Rows.{decoded}
use Rattle.rv64_core.specs.Widths.{width_bytes}
use Rattle.rv64_core.specs.laws.Aligned.{plan_of_aligned}
use Rattle.mtraps.specs.CsrTable.{is_writable, written}
use Rattle.mtraps.specs.Interrupts.{due_interrupt}
use Rattle.mtraps.specs.Traps.{after_return}
use Rattle.bus_map.specs.declared.parts.Place.{Place}
use Rattle.bus_map.specs.declared.parts.Place.TheVariants.{Ram, Clint, Net, Block, Fault}
use Rattle.bus_map.specs.declared.parts.TimerRegister.{TimerRegister}
use Rattle.bus_map.specs.AddressMap.{place_of}
use Rattle.virtio_mmio.specs.declared.kinds.DeviceKind.TheVariants.{Network}
use Rattle.virtio_mmio.specs.Registers.{Stored}
use Rattle.virtio_mmio.specs.Transport.{stored}
use Rattle.paged_memory.specs.Bytes.{number_at, with_number}
use Rattle.guest_rules.specs.Guest.{Guest, disk_kind}
use Rattle.guest_rules.specs.Pending.{mip}
use Rattle.guest_rules.specs.Places.{in_ram, ram_place}
use Rattle.guest_rules.specs.Step.{
  Effect,
  quiet,
  trapped,
  passed,
  acted,
  with_served,
  timer_stored,
  loaded_from,
  load_ended,
  net_stored,
  disk_left,
  disk_stored,
  stored_to,
  csr_value,
  combined,
  csr_accessed,
  planned,
  carried_out,
  instruction_done,
  step_of,
  step_done,
}

-- what a guest's step can leave
pub record IsOfEachCase (P : Effect → Type 0) (g : Guest) : Type 0 where
  pub trap : (cause value : ℕ) → P (trapped g cause value)
  pub goes_on : (regs : List ℕ) (pc : ℕ) → (g.pc % 4 ≡ 0 → pc % 4 ≡ 0) → P (quiet (record g { regs = regs; pc = pc }))
  pub loads : (regs : List ℕ) → P (quiet (passed (record g { regs = regs })))
  pub stores : (offset n value : ℕ) → offset + n ≤ length g.ram → P (quiet (passed (record g { ram = with_number g.ram offset n value })))
  pub sets_timer : (register : TimerRegister) (value : ℕ) → P (quiet (passed (timer_stored g value register)))
  pub serves : (offset n value : ℕ) (after : Stored) → stored Network g.net offset n value ≡ Some after →
      P (with_served (passed g) (acted g.ram after.state after.action))
  pub serves_disk : (offset n value : ℕ) (after : Stored) → stored (disk_kind g) g.disk offset n value ≡ Some after →
      P (disk_left (passed g) after.state after.action)
  pub writes_csr : (regs : List ℕ) (number value : ℕ) → P (quiet (passed (record g { regs = regs; csrs = written number value g.csrs })))
  pub returns : P (quiet (record g { csrs = after_return g.csrs; pc = g.csrs.mepc }))

chosen : (P : Effect → Type 0) (b : Bool) (x y : Effect) → (b ≡ true → P x) → P y → P (if b then x else y)
chosen P true x y f h = f refl
chosen P false x y f h = h

loaded_case : (P : Effect → Type 0) (g : Guest) → IsOfEachCase P g → (rd address : ℕ) (signed : Bool) (n : ℕ) (v : Option ℕ) →
    P (load_ended g rd address signed n v)
loaded_case P g h rd address signed n None = h.trap 5 address
loaded_case P g h rd address signed n (Some value) = h.loads _

net_case : (P : Effect → Type 0) (g : Guest) → IsOfEachCase P g → (address offset n value : ℕ) (s : Option Stored) →
    stored Network g.net offset n value ≡ s → P (net_stored g address s)
net_case P g h address offset n value None e = h.trap 7 address
net_case P g h address offset n value (Some after) e = h.serves offset n value after e

disk_case : (P : Effect → Type 0) (g : Guest) → IsOfEachCase P g → (address offset n value : ℕ) (s : Option Stored) →
    stored (disk_kind g) g.disk offset n value ≡ s → P (disk_stored g address s)
disk_case P g h address offset n value None e = h.trap 7 address
disk_case P g h address offset n value (Some after) e = h.serves_disk offset n value after e

stored_case : (P : Effect → Type 0) (g : Guest) → IsOfEachCase P g → (address n value : ℕ) (p : Place) → P (stored_to g address n value p)
stored_case P g h address n value (Ram offset) =
    chosen P (nat_le (offset + n) (length g.ram)) _ (trapped g 7 address)
    (λ inside. h.stores offset n value (leb-true (offset + n) (length g.ram) inside)) (h.trap 7 address)
stored_case P g h address n value (Clint register) = h.sets_timer register value
stored_case P g h address n value (Net offset) = net_case P g h address offset n value (stored Network g.net offset n value) refl
stored_case P g h address n value (Block offset) = disk_case P g h address offset n value (stored (disk_kind g) g.disk offset n value) refl
stored_case P g h address n value Fault = h.trap 7 address

csr_case : (P : Effect → Type 0) (g : Guest) → IsOfEachCase P g →
    (word rd number : ℕ) (op : CsrOp) (operand : ℕ) (writes : Bool) (old : Option ℕ) →
    P (csr_accessed g word rd number op operand writes old)
csr_case P g h word rd number op operand writes None = h.trap 2 word
csr_case P g h word rd number op operand true (Some old) =
    chosen P (is_writable number) _ (trapped g 2 word) (λ _. h.writes_csr _ number (combined op old operand)) (h.trap 2 word)
csr_case P g h word rd number op operand false (Some old) = h.loads _

carried_case : (P : Effect → Type 0) (g : Guest) → IsOfEachCase P g → (word : ℕ) (p : Plan) → (g.pc % 4 ≡ 0 → GoesOnAligned p) →
    P (carried_out g word p)
unfolding carried_out
carried_case P g h word (does.Next pc rd value) aligned = h.goes_on _ pc aligned
carried_case P g h word (does.Load rd address width signed) aligned =
    let n = width_bytes width in
    chosen P (address % n == 0) (load_ended g rd address signed n (loaded_from g n (place_of address n))) (trapped g 4 address)
    (λ _. loaded_case P g h rd address signed n (loaded_from g n (place_of address n))) (h.trap 4 address)
carried_case P g h word (does.Store address width value) aligned =
    let n = width_bytes width in
    chosen P (address % n == 0) (stored_to g address n value (place_of address n)) (trapped g 6 address)
    (λ _. stored_case P g h address n value (place_of address n)) (h.trap 6 address)
carried_case P g h word (does.Csr rd number op operand writes) aligned =
    csr_case P g h word rd number op operand writes (csr_value g number)
carried_case P g h word (does.Trap cause value) aligned = h.trap cause value
carried_case P g h word does.Mret aligned = h.returns

planned_aligned : (regs : List ℕ) (pc word : ℕ) (i : Option Instr) → pc % 4 ≡ 0 → GoesOnAligned (planned regs pc word i)
planned_aligned regs pc word None h = tt
planned_aligned regs pc word (Some instr) h = plan_of_aligned regs pc instr h

instruction_case : (P : Effect → Type 0) (g : Guest) → IsOfEachCase P g → P (instruction_done g)
unfolding instruction_done
instruction_case P g h =
    let word = number_at g.ram (ram_place g.pc) 4 in
    chosen P (in_ram (length g.ram) g.pc 4) _ (trapped g 1 g.pc)
    (λ _. carried_case P g h word (planned g.regs g.pc word (decoded word)) (planned_aligned g.regs g.pc word (decoded word)))
    (h.trap 1 g.pc)

interrupt_case : (P : Effect → Type 0) (g : Guest) → IsOfEachCase P g → (due : Option ℕ) → P (step_of g due)
interrupt_case P g h None = instruction_case P g h
interrupt_case P g h (Some cause) = h.trap cause 0

pub step_case : (P : Effect → Type 0) (g : Guest) → IsOfEachCase P g → P (step_done g)
unfolding step_done
step_case P g h = interrupt_case P g h (due_interrupt g.csrs (mip g))
