-- The image that a guest boots from: the bytes of RAM from its first address on, as far as they aren't 0.
use Rattle.std.specs.Prelude.{ℕ, ◌-◌, List, ◌++◌, length, replicate, fold}
use Rattle.std.specs.List.{flat_map}
use Rattle.std.specs.Int.{to_le_bytes, w32}

-- data at an address
pub record Part : Type 0 where
  pub address : ℕ
  pub bytes : List ℕ

-- a program: words from the first address of RAM on, and data behind them, by rising address
pub record Program : Type 0 where
  pub words : List ℕ
  pub parts : List Part

-- words in memory, the low byte first
abbrev pub word_bytes : List ℕ → List ℕ
word_bytes words = flat_map (to_le_bytes w32) words

-- an image with the data behind it at their address, and zeros up to there
unfoldable pub with_part : List ℕ → Part → List ℕ
with_part image part = image ++ replicate (part.address - 0x80000000 - length image) 0 ++ part.bytes

unfoldable pub image_of : Program → List ℕ
image_of program = fold with_part (word_bytes program.words) program.parts
