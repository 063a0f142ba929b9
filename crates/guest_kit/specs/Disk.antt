-- The guest that writes one sector of the disk.
use Rattle.std.specs.Prelude.{ℕ, List, [], ◌∷◌, replicate}
use Rattle.std.specs.Int.{to_le_bytes, w32, w64}
use Rattle.guest_kit.specs.Image.{Program}
use Rattle.guest_kit.specs.Beacon.{part}
use Rattle.guest_kit.specs.Rings.{descriptor}

-- the words, beside each what an assembler reads; word 23 notifies the device, and word 24 jumps to itself
abbrev pub disk_words : List ℕ
disk_words =
    0x100022b7  -- lui x5, 0x10002              the block device
    ∷ 0x00100313  -- addi x6, x0, 1               it is noticed and driven
    ∷ 0x0662a823  -- sw x6, 112(x5)
    ∷ 0x00300393  -- addi x7, x0, 3
    ∷ 0x0672a823  -- sw x7, 112(x5)
    ∷ 0x0262a223  -- sw x6, 36(x5)                of its features, bit 32 alone
    ∷ 0x0262a023  -- sw x6, 32(x5)
    ∷ 0x00b00393  -- addi x7, x0, 11
    ∷ 0x0672a823  -- sw x7, 112(x5)
    ∷ 0x0702a403  -- lw x8, 112(x5)
    ∷ 0x0202a823  -- sw x0, 48(x5)                queue 0, with four descriptors
    ∷ 0x00400393  -- addi x7, x0, 4
    ∷ 0x0272ac23  -- sw x7, 56(x5)
    ∷ 0x800013b7  -- lui x7, 0x80001
    ∷ 0x0872a023  -- sw x7, 128(x5)
    ∷ 0x04038393  -- addi x7, x7, 64
    ∷ 0x0872a823  -- sw x7, 144(x5)
    ∷ 0x04038393  -- addi x7, x7, 64
    ∷ 0x0a72a023  -- sw x7, 160(x5)
    ∷ 0x0462a223  -- sw x6, 68(x5)
    ∷ 0x00f00393  -- addi x7, x0, 15              the driver is ready
    ∷ 0x0672a823  -- sw x7, 112(x5)
    ∷ 0x0402a823  -- sw x0, 80(x5)                the request is made
    ∷ 0x0000006f  -- jal x0, 5c                   the wait
    ∷ []

-- A chain of three, each but the last with the flag NEXT (1): the head of the request and the data, which the device reads, and
-- the status byte, which it writes (2). The head (virtio 1.1, 5.2.6) is type 1, a write, in 4 bytes, 4 bytes reserved, and the
-- sector in 8; the status byte is ff until the device has written it.
abbrev pub disk_program : (sector byte : ℕ) → Program
disk_program sector byte = record {
  words = disk_words;
  parts =
      part 0x80001000 (descriptor 0x80001100 16 1 1)
      ∷ part 0x80001010 (descriptor 0x80001200 512 1 2)
      ∷ part 0x80001020 (descriptor 0x80001110 1 2 0)
      ∷ part 0x80001040 (0 ∷ 0 ∷ 1 ∷ 0 ∷ 0 ∷ 0 ∷ [])
      ∷ part 0x80001100 (to_le_bytes w32 1)
      ∷ part 0x80001108 (to_le_bytes w64 sector)
      ∷ part 0x80001110 (0xff ∷ [])
      ∷ part 0x80001200 (replicate 512 byte)
      ∷ [];
}
