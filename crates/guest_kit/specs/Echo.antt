-- The guest that sends each frame back to where it came from.
use Rattle.std.specs.Prelude.{ℕ, List, [], ◌∷◌, ◌++◌}
use Rattle.guest_kit.specs.Image.{Program}
use Rattle.guest_kit.specs.Beacon.{part}
use Rattle.guest_kit.specs.Rings.{descriptor}

-- The words, beside each what an assembler reads, where a jump names the place of a word.

-- the device and its two queues are set up
abbrev pub echo_setup : List ℕ
echo_setup =
    0x00001497  -- auipc x9, 0x1                the rings' page, 0x80001000
    ∷ 0x100012b7  -- lui x5, 0x10001              the network device
    ∷ 0x00001537  -- lui x10, 0x1                 the buffers, a page behind it
    ∷ 0x00a48533  -- add x10, x9, x10
    ∷ 0x0602a823  -- sw x0, 112(x5)               the device is reset, noticed, driven
    ∷ 0x00100313  -- addi x6, x0, 1
    ∷ 0x0662a823  -- sw x6, 112(x5)
    ∷ 0x00300393  -- addi x7, x0, 3
    ∷ 0x0672a823  -- sw x7, 112(x5)
    ∷ 0x0262a223  -- sw x6, 36(x5)                of its features, bit 32 alone
    ∷ 0x0262a023  -- sw x6, 32(x5)
    ∷ 0x00b00393  -- addi x7, x0, 11
    ∷ 0x0672a823  -- sw x7, 112(x5)               which it takes
    ∷ 0x0702a403  -- lw x8, 112(x5)
    ∷ 0x0e741e63  -- bne x8, x7, 134
    ∷ 0x00000593  -- addi x11, x0, 0              queue 0, for receiving, is first
    ∷ 0x00048613  -- addi x12, x9, 0
    ∷ 0x00400393  -- addi x7, x0, 4
    ∷ 0x02b2a823  -- sw x11, 48(x5)               a queue of 4 descriptors, with its rings
    ∷ 0x0272ac23  -- sw x7, 56(x5)
    ∷ 0x08c2a023  -- sw x12, 128(x5)
    ∷ 0x04060693  -- addi x13, x12, 64
    ∷ 0x08d2a823  -- sw x13, 144(x5)
    ∷ 0x04068693  -- addi x13, x13, 64
    ∷ 0x0ad2a023  -- sw x13, 160(x5)
    ∷ 0x0462a223  -- sw x6, 68(x5)
    ∷ 0x00158593  -- addi x11, x11, 1             queue 1, for sending, is 256 bytes behind
    ∷ 0x10060613  -- addi x12, x12, 256
    ∷ 0xfc658ce3  -- beq x11, x6, 48              the same once more
    ∷ 0x00f00393  -- addi x7, x0, 15              the driver is ready
    ∷ 0x0672a823  -- sw x7, 112(x5)
    ∷ 0x00000413  -- addi x8, x0, 0               no frame yet
    ∷ []

-- a frame is waited for, and its addresses are turned round
abbrev pub echo_turn : List ℕ
echo_turn =
    0x0824d383  -- lhu x7, 130(x9)              the wait for the next frame
    ∷ 0xfe838ee3  -- beq x7, x8, 80
    ∷ 0x0ff0000f  -- fence iorw, iorw
    ∷ 0x00347593  -- andi x11, x8, 3              its place in the rings
    ∷ 0x00359613  -- slli x12, x11, 0x3
    ∷ 0x00960633  -- add x12, x12, x9
    ∷ 0x08466683  -- lwu x13, 132(x12)            its buffer, and its length
    ∷ 0x08866703  -- lwu x14, 136(x12)
    ∷ 0x00b69793  -- slli x15, x13, 0xb
    ∷ 0x00a787b3  -- add x15, x15, x10
    ∷ 0x0127d383  -- lhu x7, 18(x15)              back to where it came from
    ∷ 0x00779623  -- sh x7, 12(x15)
    ∷ 0x0147d383  -- lhu x7, 20(x15)
    ∷ 0x00779723  -- sh x7, 14(x15)
    ∷ 0x0167d383  -- lhu x7, 22(x15)
    ∷ 0x00779823  -- sh x7, 16(x15)
    ∷ 0x00200393  -- addi x7, x0, 2               from the guest, 02:00:00:00:00:01
    ∷ 0x00779923  -- sh x7, 18(x15)
    ∷ 0x00079a23  -- sh x0, 20(x15)
    ∷ 0x10000393  -- addi x7, x0, 256
    ∷ 0x00779b23  -- sh x7, 22(x15)
    ∷ 0x00079523  -- sh x0, 10(x15)               the header says nothing
    ∷ []

-- it is sent, and its buffer receives again
abbrev pub echo_send : List ℕ
echo_send =
    0x00469393  -- slli x7, x13, 0x4            the buffer is sent
    ∷ 0x009383b3  -- add x7, x7, x9
    ∷ 0x10e3a423  -- sw x14, 264(x7)
    ∷ 0x00159613  -- slli x12, x11, 0x1
    ∷ 0x00960633  -- add x12, x12, x9
    ∷ 0x14d61223  -- sh x13, 324(x12)
    ∷ 0x00140413  -- addi x8, x8, 1               one frame more, modulo 2^16
    ∷ 0x03041413  -- slli x8, x8, 0x30
    ∷ 0x03045413  -- srli x8, x8, 0x30
    ∷ 0x0ff0000f  -- fence iorw, iorw
    ∷ 0x14849123  -- sh x8, 322(x9)
    ∷ 0x0ff0000f  -- fence iorw, iorw
    ∷ 0x0462a823  -- sw x6, 80(x5)
    ∷ 0x1824d383  -- lhu x7, 386(x9)              the wait until it was sent
    ∷ 0xfe839ee3  -- bne x7, x8, 10c
    ∷ 0x04d61223  -- sh x13, 68(x12)              the buffer receives again
    ∷ 0x00440393  -- addi x7, x8, 4
    ∷ 0x0ff0000f  -- fence iorw, iorw
    ∷ 0x04749123  -- sh x7, 66(x9)
    ∷ 0x0402a823  -- sw x0, 80(x5)
    ∷ 0x0602a383  -- lw x7, 96(x5)                the interrupts are acknowledged
    ∷ 0x0672a223  -- sw x7, 100(x5)
    ∷ 0xf51ff06f  -- jal x0, 80                   on to the next frame
    ∷ 0x0000006f  -- jal x0, 134                  where the device takes no feature
    ∷ []

abbrev pub echo_words : List ℕ
echo_words = echo_setup ++ (echo_turn ++ echo_send)

-- the available rings: the flag that asks for no interrupts, and at first each buffer receives and none is sent
abbrev pub four_available : List ℕ
four_available = 1 ∷ 0 ∷ 4 ∷ 0 ∷ 0 ∷ 0 ∷ 1 ∷ 0 ∷ 2 ∷ 0 ∷ 3 ∷ 0 ∷ []

abbrev pub none_available : List ℕ
none_available = 1 ∷ 0 ∷ 0 ∷ 0 ∷ []

-- four buffers of 2048 bytes, which both queues name: one receives a frame, flag WRITE (2), and is sent as it lies there, with
-- the length that the guest puts into its other descriptor
abbrev pub echo_program : Program
echo_program = record {
  words = echo_words;
  parts =
      part 0x80001000 (descriptor 0x80002000 2048 2 0)
      ∷ part 0x80001010 (descriptor 0x80002800 2048 2 0)
      ∷ part 0x80001020 (descriptor 0x80003000 2048 2 0)
      ∷ part 0x80001030 (descriptor 0x80003800 2048 2 0)
      ∷ part 0x80001040 four_available
      ∷ part 0x80001100 (descriptor 0x80002000 0 0 0)
      ∷ part 0x80001110 (descriptor 0x80002800 0 0 0)
      ∷ part 0x80001120 (descriptor 0x80003000 0 0 0)
      ∷ part 0x80001130 (descriptor 0x80003800 0 0 0)
      ∷ part 0x80001140 none_available
      ∷ [];
}
