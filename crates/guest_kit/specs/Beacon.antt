-- The guest that sends one frame.
use Rattle.std.specs.Prelude.{ℕ, List, [], ◌∷◌, ◌++◌, replicate}
use Rattle.guest_kit.specs.Image.{Program, Part}
use Rattle.guest_kit.specs.Rings.{descriptor}

-- the device is found, queue 1 is set up with one descriptor, and then word 22 notifies it, and word 23 jumps to itself
abbrev pub beacon_words : List ℕ
beacon_words =
    0x100012b7 ∷ 0x00100313 ∷ 0x0662a823 ∷ 0x00300393 ∷ 0x0672a823 ∷ 0x0262a223 ∷ 0x0262a023 ∷ 0x00b00393
    ∷ 0x0672a823 ∷ 0x0702a403 ∷ 0x0262a823 ∷ 0x0262ac23 ∷ 0x800013b7 ∷ 0x0872a023 ∷ 0x04038393 ∷ 0x0872a823
    ∷ 0x04038393 ∷ 0x0a72a023 ∷ 0x0462a223 ∷ 0x00f00393 ∷ 0x0672a823 ∷ 0x0462a823 ∷ 0x0000006f ∷ []

-- the frame: to client 1, from the guest, of a local experimental type, with no data
abbrev pub beacon_frame : List ℕ
beacon_frame = 0x02 ∷ 0 ∷ 0 ∷ 0 ∷ 0x01 ∷ 0x01 ∷ 0x02 ∷ 0 ∷ 0 ∷ 0 ∷ 0 ∷ 0x01 ∷ 0x88 ∷ 0xb5 ∷ []

-- the header of the network device, of 12 zero bytes, and the frame
abbrev pub frame_buffer : List ℕ
frame_buffer = replicate 12 0 ++ beacon_frame

abbrev pub part : ℕ → List ℕ → Part
part address bytes = record { address = address; bytes = bytes }

-- one descriptor, which holds the buffer, and the available ring, whose flags are 0, whose index is 1, and whose entry is 0
abbrev pub beacon_program : Program
beacon_program = record {
  words = beacon_words;
  parts =
      part 0x80001000 (descriptor 0x80001100 26 0 0) ∷ part 0x80001040 (0 ∷ 0 ∷ 1 ∷ 0 ∷ 0 ∷ 0 ∷ []) ∷ part 0x80001100 frame_buffer ∷ [];
}
