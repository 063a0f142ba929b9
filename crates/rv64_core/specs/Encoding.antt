-- The word of an instruction: its fixed bits, and its fields in their places (the Unprivileged ISA, "Base Instruction Formats" and
-- "RV32/64G
-- Instruction Set Listings").
use Rattle.std.specs.Prelude.{ℕ, ◌+◌, ◌*◌, ◌/◌, ◌%◌, ◌^◌, Bool, true, false}
use Rattle.rv64_core.specs.declared.instruction.Instr.{Instr}
use Rattle.rv64_core.specs.declared.instruction.Instr.TheVariants as is
use Rattle.rv64_core.specs.declared.operations.Operation.{Operation}
use Rattle.rv64_core.specs.declared.operations.Operation.TheVariants.{Add, Sll, Slt, Sltu, Xor, Srl, Sra, Or, And}
use Rattle.rv64_core.specs.declared.operations.WordOperation.{WordOperation}
use Rattle.rv64_core.specs.declared.operations.WordOperation.TheVariants as word
use Rattle.rv64_core.specs.declared.operations.Multiplication.{Multiplication}
use Rattle.rv64_core.specs.declared.operations.Multiplication.TheVariants.{Mul, Mulh, Mulhsu, Mulhu}
use Rattle.rv64_core.specs.declared.operations.Division.{Division}
use Rattle.rv64_core.specs.declared.operations.Division.TheVariants.{Div, Divu, Rem, Remu}
use Rattle.rv64_core.specs.declared.operations.Condition.{Condition}
use Rattle.rv64_core.specs.declared.operations.Condition.TheVariants.{Eq, Ne, Lt, Ge, Ltu, Geu}
use Rattle.rv64_core.specs.declared.operations.CsrOp.{CsrOp}
use Rattle.rv64_core.specs.declared.operations.CsrOp.TheVariants as csr
use Rattle.rv64_core.specs.declared.width.Width.{Width}
use Rattle.rv64_core.specs.declared.width.Width.TheVariants.{Byte, Half, Word, Double}

-- each format places its fields on the fixed bits
abbrev pub u_word : ℕ → ℕ → ℕ → ℕ
u_word fixed rd imm = fixed + rd * 2 ^ 7 + imm / 2 ^ 12 % 2 ^ 20 * 2 ^ 12

abbrev pub j_word : ℕ → ℕ → ℕ → ℕ
j_word fixed rd imm =
    fixed + rd * 2 ^ 7
    + imm / 2 ^ 12 % 2 ^ 8 * 2 ^ 12 + imm / 2 ^ 11 % 2 * 2 ^ 20 + imm / 2 % 2 ^ 10 * 2 ^ 21 + imm / 2 ^ 20 % 2 * 2 ^ 31

abbrev pub i_word : ℕ → ℕ → ℕ → ℕ → ℕ
i_word fixed rd rs1 imm = fixed + rd * 2 ^ 7 + rs1 * 2 ^ 15 + imm % 2 ^ 12 * 2 ^ 20

abbrev pub shift_word : ℕ → ℕ → ℕ → ℕ → ℕ
shift_word fixed rd rs1 amount = fixed + rd * 2 ^ 7 + rs1 * 2 ^ 15 + amount % 2 ^ 6 * 2 ^ 20

abbrev pub word_shift_word : ℕ → ℕ → ℕ → ℕ → ℕ
word_shift_word fixed rd rs1 amount = fixed + rd * 2 ^ 7 + rs1 * 2 ^ 15 + amount % 2 ^ 5 * 2 ^ 20

abbrev pub s_word : ℕ → ℕ → ℕ → ℕ → ℕ
s_word fixed rs1 rs2 imm = fixed + imm % 2 ^ 5 * 2 ^ 7 + rs1 * 2 ^ 15 + rs2 * 2 ^ 20 + imm / 2 ^ 5 % 2 ^ 7 * 2 ^ 25

abbrev pub b_word : ℕ → ℕ → ℕ → ℕ → ℕ
b_word fixed rs1 rs2 imm =
    fixed + imm / 2 ^ 11 % 2 * 2 ^ 7 + imm / 2 % 2 ^ 4 * 2 ^ 8
    + rs1 * 2 ^ 15 + rs2 * 2 ^ 20
    + imm / 2 ^ 5 % 2 ^ 6 * 2 ^ 25 + imm / 2 ^ 12 % 2 * 2 ^ 31

abbrev pub r_word : ℕ → ℕ → ℕ → ℕ → ℕ
r_word fixed rd rs1 rs2 = fixed + rd * 2 ^ 7 + rs1 * 2 ^ 15 + rs2 * 2 ^ 20

-- ---- the fixed bits, column by column as the listings have them: the opcode in bits 6:0, funct3 in bits 14:12 and funct7 in
-- bits 31:25. That they are those of the table of rows is the clause `inverse` of `encode`

abbrev pub fixed_bits : ℕ → ℕ → ℕ → ℕ
fixed_bits opcode funct3 funct7 = opcode + funct3 * 2 ^ 12 + funct7 * 2 ^ 25

-- the branches
abbrev pub branch_bits : Condition → ℕ
branch_bits Eq = fixed_bits 0x63 0 0
branch_bits Ne = fixed_bits 0x63 1 0
branch_bits Lt = fixed_bits 0x63 4 0
branch_bits Ge = fixed_bits 0x63 5 0
branch_bits Ltu = fixed_bits 0x63 6 0
branch_bits Geu = fixed_bits 0x63 7 0

-- the loads, of which all but the widest can be filled with zeros
abbrev pub load_bits : Width → Bool → ℕ
load_bits Byte true = fixed_bits 0x03 0 0
load_bits Half true = fixed_bits 0x03 1 0
load_bits Word true = fixed_bits 0x03 2 0
load_bits Double true = fixed_bits 0x03 3 0
load_bits Byte false = fixed_bits 0x03 4 0
load_bits Half false = fixed_bits 0x03 5 0
load_bits Word false = fixed_bits 0x03 6 0
load_bits Double false = fixed_bits 0x03 3 0

abbrev pub store_bits : Width → ℕ
store_bits Byte = fixed_bits 0x23 0 0
store_bits Half = fixed_bits 0x23 1 0
store_bits Word = fixed_bits 0x23 2 0
store_bits Double = fixed_bits 0x23 3 0

-- operations on two registers, then the products and quotients of "M"
abbrev pub op_bits : Operation → ℕ
op_bits Add = fixed_bits 0x33 0 0
op_bits Sll = fixed_bits 0x33 1 0
op_bits Slt = fixed_bits 0x33 2 0
op_bits Sltu = fixed_bits 0x33 3 0
op_bits Xor = fixed_bits 0x33 4 0
op_bits Srl = fixed_bits 0x33 5 0
op_bits Sra = fixed_bits 0x33 5 0x20
op_bits Or = fixed_bits 0x33 6 0
op_bits And = fixed_bits 0x33 7 0

abbrev pub mul_bits : Multiplication → ℕ
mul_bits Mul = fixed_bits 0x33 0 0x01
mul_bits Mulh = fixed_bits 0x33 1 0x01
mul_bits Mulhsu = fixed_bits 0x33 2 0x01
mul_bits Mulhu = fixed_bits 0x33 3 0x01

abbrev pub div_bits : Division → ℕ
div_bits Div = fixed_bits 0x33 4 0x01
div_bits Divu = fixed_bits 0x33 5 0x01
div_bits Rem = fixed_bits 0x33 6 0x01
div_bits Remu = fixed_bits 0x33 7 0x01

-- the same on 32 bits
abbrev pub op_word_bits : WordOperation → ℕ
op_word_bits word.Add = fixed_bits 0x3b 0 0
op_word_bits word.Sll = fixed_bits 0x3b 1 0
op_word_bits word.Srl = fixed_bits 0x3b 5 0
op_word_bits word.Sra = fixed_bits 0x3b 5 0x20

abbrev pub div_word_bits : Division → ℕ
div_word_bits Div = fixed_bits 0x3b 4 0x01
div_word_bits Divu = fixed_bits 0x3b 5 0x01
div_word_bits Rem = fixed_bits 0x3b 6 0x01
div_word_bits Remu = fixed_bits 0x3b 7 0x01

-- operations on a register and an immediate; in a shift, funct7 stands before the amount
abbrev pub placed_op_imm : Operation → ℕ → ℕ → ℕ → ℕ
placed_op_imm Add rd rs1 imm = i_word (fixed_bits 0x13 0 0) rd rs1 imm
placed_op_imm Sll rd rs1 imm = shift_word (fixed_bits 0x13 1 0) rd rs1 imm
placed_op_imm Slt rd rs1 imm = i_word (fixed_bits 0x13 2 0) rd rs1 imm
placed_op_imm Sltu rd rs1 imm = i_word (fixed_bits 0x13 3 0) rd rs1 imm
placed_op_imm Xor rd rs1 imm = i_word (fixed_bits 0x13 4 0) rd rs1 imm
placed_op_imm Srl rd rs1 imm = shift_word (fixed_bits 0x13 5 0) rd rs1 imm
placed_op_imm Sra rd rs1 imm = shift_word (fixed_bits 0x13 5 0x20) rd rs1 imm
placed_op_imm Or rd rs1 imm = i_word (fixed_bits 0x13 6 0) rd rs1 imm
placed_op_imm And rd rs1 imm = i_word (fixed_bits 0x13 7 0) rd rs1 imm

abbrev pub placed_op_imm_word : WordOperation → ℕ → ℕ → ℕ → ℕ
placed_op_imm_word word.Add rd rs1 imm = i_word (fixed_bits 0x1b 0 0) rd rs1 imm
placed_op_imm_word word.Sll rd rs1 imm = word_shift_word (fixed_bits 0x1b 1 0) rd rs1 imm
placed_op_imm_word word.Srl rd rs1 imm = word_shift_word (fixed_bits 0x1b 5 0) rd rs1 imm
placed_op_imm_word word.Sra rd rs1 imm = word_shift_word (fixed_bits 0x1b 5 0x20) rd rs1 imm

-- accesses to a control and status register, named by a register and by a number
abbrev pub csr_bits : CsrOp → ℕ
csr_bits csr.Write = fixed_bits 0x73 1 0
csr_bits csr.Set = fixed_bits 0x73 2 0
csr_bits csr.Clear = fixed_bits 0x73 3 0

abbrev pub csr_imm_bits : CsrOp → ℕ
csr_imm_bits csr.Write = fixed_bits 0x73 5 0
csr_imm_bits csr.Set = fixed_bits 0x73 6 0
csr_imm_bits csr.Clear = fixed_bits 0x73 7 0

-- ---- the word

unfoldable pub encoded : Instr → ℕ
encoded (is.Lui rd imm) = u_word 0x37 rd imm
encoded (is.Auipc rd imm) = u_word 0x17 rd imm
encoded (is.Jal rd offset) = j_word 0x6f rd offset
encoded (is.Jalr rd rs1 offset) = i_word (fixed_bits 0x67 0 0) rd rs1 offset
encoded (is.Branch condition rs1 rs2 offset) = b_word (branch_bits condition) rs1 rs2 offset
encoded (is.Load rd rs1 offset width signed) = i_word (load_bits width signed) rd rs1 offset
encoded (is.Store rs1 rs2 offset width) = s_word (store_bits width) rs1 rs2 offset
encoded (is.OpImm op rd rs1 imm) = placed_op_imm op rd rs1 imm
encoded (is.Op op rd rs1 rs2) = r_word (op_bits op) rd rs1 rs2
encoded (is.Sub rd rs1 rs2) = r_word (fixed_bits 0x33 0 0x20) rd rs1 rs2
encoded (is.Mul op rd rs1 rs2) = r_word (mul_bits op) rd rs1 rs2
encoded (is.Div op rd rs1 rs2) = r_word (div_bits op) rd rs1 rs2
encoded (is.OpImmWord op rd rs1 imm) = placed_op_imm_word op rd rs1 imm
encoded (is.OpWord op rd rs1 rs2) = r_word (op_word_bits op) rd rs1 rs2
encoded (is.SubWord rd rs1 rs2) = r_word (fixed_bits 0x3b 0 0x20) rd rs1 rs2
encoded (is.MulWord rd rs1 rs2) = r_word (fixed_bits 0x3b 0 0x01) rd rs1 rs2
encoded (is.DivWord op rd rs1 rs2) = r_word (div_word_bits op) rd rs1 rs2
encoded (is.Fence rd rs1 ordering) = i_word (fixed_bits 0x0f 0 0) rd rs1 ordering
encoded (is.Csr op rd rs1 number) = i_word (csr_bits op) rd rs1 number
encoded (is.CsrImm op rd imm number) = i_word (csr_imm_bits op) rd (imm % 2 ^ 5) number
encoded is.Ecall = 0x00000073
encoded is.Ebreak = 0x00100073
encoded is.Mret = 0x30200073
encoded is.Wfi = 0x10500073
