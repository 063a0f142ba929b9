-- A plan goes on at a multiple of 4.
use Rattle.std.proofs.Common.{◌≡◌, ℕ, ◌*◌, ◌/◌, ◌%◌, List, nat_eq, inl, inr, arith}
use Rattle.std.proofs.lemmas.Bool.{eqb-true, cases_Bool}
use Rattle.rv64_core.specs.declared.instruction.Instr.{Instr}
use Rattle.rv64_core.specs.declared.instruction.Instr.TheVariants as is
use Rattle.rv64_core.specs.Meaning.{plan_of, jumped, sum_of, GoesOnAligned}
use Rattle.rv64_core.specs.Operations.{holds}
use Rattle.rv64_core.specs.Registers.{register}

next_aligned : (pc : ℕ) → pc % 4 ≡ 0 → sum_of pc 4 % 4 ≡ 0
next_aligned pc h = omega arith

jump_aligned : (rd target link : ℕ) → GoesOnAligned (jumped rd target link)
jump_aligned rd target link =
    elim (cases_Bool (nat_eq (target % 4) 0)) [ inl e ↦ rw e (eqb-true _ _ e) | inr e ↦ rw e tt ]

pub plan_of_aligned : (x : List ℕ) (pc : ℕ) (i : Instr) → pc % 4 ≡ 0 → GoesOnAligned (plan_of x pc i)
unfolding plan_of
plan_of_aligned x pc (is.Lui rd imm) h = next_aligned pc h
plan_of_aligned x pc (is.Auipc rd imm) h = next_aligned pc h
plan_of_aligned x pc (is.Jal rd offset) h = jump_aligned rd (sum_of pc offset) (sum_of pc 4)
plan_of_aligned x pc (is.Jalr rd rs1 offset) h = jump_aligned rd (sum_of (register x rs1) offset / 2 * 2) (sum_of pc 4)
plan_of_aligned x pc (is.Branch condition rs1 rs2 offset) h =
    elim (cases_Bool (holds condition (register x rs1) (register x rs2))) [
      | inl e ↦ rw e (jump_aligned 0 (sum_of pc offset) 0)
      | inr e ↦ rw e (next_aligned pc h)
    ]
plan_of_aligned x pc (is.Load rd rs1 offset width signed) h = tt
plan_of_aligned x pc (is.Store rs1 rs2 offset width) h = tt
plan_of_aligned x pc (is.OpImm op rd rs1 imm) h = next_aligned pc h
plan_of_aligned x pc (is.Op op rd rs1 rs2) h = next_aligned pc h
plan_of_aligned x pc (is.Sub rd rs1 rs2) h = next_aligned pc h
plan_of_aligned x pc (is.Mul op rd rs1 rs2) h = next_aligned pc h
plan_of_aligned x pc (is.Div op rd rs1 rs2) h = next_aligned pc h
plan_of_aligned x pc (is.OpImmWord op rd rs1 imm) h = next_aligned pc h
plan_of_aligned x pc (is.OpWord op rd rs1 rs2) h = next_aligned pc h
plan_of_aligned x pc (is.SubWord rd rs1 rs2) h = next_aligned pc h
plan_of_aligned x pc (is.MulWord rd rs1 rs2) h = next_aligned pc h
plan_of_aligned x pc (is.DivWord op rd rs1 rs2) h = next_aligned pc h
plan_of_aligned x pc (is.Fence rd rs1 ordering) h = next_aligned pc h
plan_of_aligned x pc (is.Csr op rd rs1 csr) h = tt
plan_of_aligned x pc (is.CsrImm op rd imm csr) h = tt
plan_of_aligned x pc is.Ecall h = tt
plan_of_aligned x pc is.Ebreak h = tt
plan_of_aligned x pc is.Mret h = tt
plan_of_aligned x pc is.Wfi h = next_aligned pc h
