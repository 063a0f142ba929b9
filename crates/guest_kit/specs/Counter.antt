-- The guest that counts timer interrupts.
use Rattle.std.specs.Prelude.{ℕ, List, [], ◌∷◌}
use Rattle.guest_kit.specs.Image.{Program}

-- the words, beside each what an assembler reads
abbrev pub counter_words : List ℕ
counter_words =
    0x00001417  -- auipc x8, 0x1          the count's address, 0x80001000
    ∷ 0x0200c2b7  -- lui x5, 0x200c       mtime lies 8 bytes before this
    ∷ 0x02004337  -- lui x6, 0x2004       mtimecmp
    ∷ 0x00000397  -- auipc x7, 0
    ∷ 0x02838393  -- addi x7, x7, 40      the handler
    ∷ 0x30539073  -- csrrw x0, mtvec, x7
    ∷ 0xff82b383  -- ld x7, -8(x5)
    ∷ 0x06438393  -- addi x7, x7, 100
    ∷ 0x00733023  -- sd x7, 0(x6)
    ∷ 0x08000393  -- addi x7, x0, 128   the timer interrupt's enable
    ∷ 0x3043a073  -- csrrs x0, mie, x7
    ∷ 0x30046073  -- csrrsi x0, mstatus, 8
    ∷ 0x0000006f  -- jal x0, 0          the wait
    ∷ 0x00043383  -- ld x7, 0(x8)         the handler: the count rises
    ∷ 0x00138393  -- addi x7, x7, 1
    ∷ 0x00743023  -- sd x7, 0(x8)
    ∷ 0xff82b383  -- ld x7, -8(x5)        the next interrupt
    ∷ 0x06438393  -- addi x7, x7, 100
    ∷ 0x00733023  -- sd x7, 0(x6)
    ∷ 0x30200073  -- mret
    ∷ []

-- no data: the count is 0 at boot
abbrev pub counter_program : Program
counter_program = record { words = counter_words; parts = [] }
