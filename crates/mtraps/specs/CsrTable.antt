-- The CSRs, by the Privileged ISA ("Control and Status Registers", "Machine-Level CSRs"). Which of them there are, and which bits of a WARL
-- field a write keeps, is this machine's own profile.
use Rattle.std.specs.Prelude.{◌≡◌, ℕ, ◌==◌, Bool, true, false, bit_and, bit_or, Option, List, [], ◌∷◌, find}
use Rattle.std.specs.Option.{option_map, option_map_or}
use Rattle.mtraps.specs.declared.values.CsrValues.{CsrValues}

-- whether software may write it
pub data Access : Type 0 where
  read_write : Access
  read_only : Access

-- a CSR: its number, its value at boot, the bits that a write keeps, and which of the values it reads and sets
pub record Row : Type 0 where
  pub number : ℕ
  pub access : Access
  pub boot : ℕ
  pub kept : ℕ
  pub value : CsrValues → ℕ
  pub set : ℕ → CsrValues → CsrValues

-- a CSR that holds a value
abbrev pub holding : ℕ → ℕ → ℕ → (CsrValues → ℕ) → (ℕ → CsrValues → CsrValues) → Row
holding number boot kept value set =
    record { number = number; access = read_write; boot = boot; kept = kept; value = value; set = set }

-- a CSR that always reads the same: a write is illegal, or keeps no bit
abbrev pub constant : ℕ → Access → ℕ → Row
constant number access boot =
    record { number = number; access = access; boot = boot; kept = 0; value = λ _. boot; set = λ _ s. s }

unfoldable pub csr_table : List Row
csr_table =
    -- mstatus: MIE and MPIE, bits 3 and 7, are kept, and MPP, bits 12:11, reads 3
    holding 0x300 0x1800 0x88 (λ s. s.mstatus) (λ v s. record s { mstatus = v })
    -- misa: MXL is 2, 64 bits, with I and M, bits 8 and 12
    ∷ constant 0x301 read_write 0x8000000000001100
    -- mie: MSIE, MTIE and MEIE, bits 3, 7 and 11
    ∷ holding 0x304 0 0x888 (λ s. s.mie) (λ v s. record s { mie = v })
    -- mtvec: all but bit 1, since the mode is 0, direct, or 1, vectored
    ∷ holding 0x305 0 0xfffffffffffffffd (λ s. s.mtvec) (λ v s. record s { mtvec = v })
    -- mscratch
    ∷ holding 0x340 0 0xffffffffffffffff (λ s. s.mscratch) (λ v s. record s { mscratch = v })
    -- mepc: all but bits 1:0, since instructions have 4 bytes
    ∷ holding 0x341 0 0xfffffffffffffffc (λ s. s.mepc) (λ v s. record s { mepc = v })
    -- mcause and mtval
    ∷ holding 0x342 0 0xffffffffffffffff (λ s. s.mcause) (λ v s. record s { mcause = v })
    ∷ holding 0x343 0 0xffffffffffffffff (λ s. s.mtval) (λ v s. record s { mtval = v })
    -- mip: the pending interrupts are the machine's, which answers a read itself
    ∷ constant 0x344 read_write 0
    -- mvendorid, marchid, mimpid, mhartid, mconfigptr
    ∷ constant 0xf11 read_only 0
    ∷ constant 0xf12 read_only 0
    ∷ constant 0xf13 read_only 0
    ∷ constant 0xf14 read_only 0
    ∷ constant 0xf15 read_only 0
    ∷ []

-- the CSR with this number
unfoldable pub csr : ℕ → Option Row
csr number = find (λ row. row.number == number) csr_table

-- what it reads after a write of v: the bits that a write keeps are those of v, the others are as at boot
abbrev pub after_write : Row → ℕ → ℕ
after_write row v = bit_or (bit_and v row.kept) row.boot

-- what a read of the CSR with this number answers
unfoldable pub read_value : ℕ → CsrValues → Option ℕ
read_value number s = option_map (λ row. row.value s) (csr number)

-- software may write it
abbrev pub is_read_write : Access → Bool
is_read_write read_write = true
is_read_write read_only = false

-- there is a CSR with this number that software may write
unfoldable pub is_writable : ℕ → Bool
is_writable number = option_map_or (λ row. is_read_write row.access) (csr number) false

-- what it holds after a write of v
unfoldable pub legal_value : ℕ → ℕ → ℕ
legal_value number v = option_map_or (λ row. after_write row v) (csr number) v

-- the values after a write of v: only that CSR changes, and none where there is no such CSR
unfoldable pub written : ℕ → ℕ → CsrValues → CsrValues
written number v s = option_map_or (λ row. row.set (after_write row v) s) (csr number) s

-- at boot
abbrev pub boot_values : CsrValues
boot_values =
    record { mstatus = 0x1800; mie = 0; mtvec = 0; mscratch = 0; mepc = 0; mcause = 0; mtval = 0 }

-- each CSR holds a value that a write leaves as it is. The three that are left out hold any value
pub record IsLegal (s : CsrValues) : Type 0 where
  pub mstatus : legal_value 0x300 s.mstatus ≡ s.mstatus
  pub mie : legal_value 0x304 s.mie ≡ s.mie
  pub mtvec : legal_value 0x305 s.mtvec ≡ s.mtvec
  pub mepc : legal_value 0x341 s.mepc ≡ s.mepc
