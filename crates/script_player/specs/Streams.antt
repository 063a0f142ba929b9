-- What the program reads and writes, and whether that failed.
use Rattle.std.specs.Prelude.{◌≡◌, ℕ, ◌<◌, Bool, true, false, List, length, take, Option, Result, Ok, Err}
use Rattle.std.specs.Io.KnownBytes.{Appends, Consumes, Keeps, IsAtEnd}
use Rattle.script_player.specs.Output.{AppendsFront}

-- of a writer: the bytes that were written, where they are known, and whether a write failed
pub record Writing : Type 0 where
  pub bytes : Option (List ℕ)
  pub failed : Bool

-- All of this was written, and no write failed.
pub record Writes (old new : Writing) (bytes : List ℕ) : Type 0 where
  pub all : Appends old.bytes new.bytes bytes
  pub well : new.failed ≡ false

-- A write failed: the first of this was written, or none.
pub record WritesFront (old new : Writing) (bytes : List ℕ) : Type 0 where
  pub front : AppendsFront old.bytes new.bytes bytes
  pub badly : new.failed ≡ true

-- A write was asked for. Once one has failed, no later one succeeds.
abbrev pub IsPut : {T E : Type 0} → Writing → Writing → Result T E → List ℕ → Type 0
IsPut old new (Ok done) bytes = Writes old new bytes × (old.failed ≡ false)
IsPut old new (Err e) bytes = WritesFront old new bytes

-- All of this was printed; or a write failed.
abbrev pub IsPrinted : {T E : Type 0} → Writing → Writing → Result T E → List ℕ → Type 0
IsPrinted old new (Ok done) bytes = Appends old.bytes new.bytes bytes
IsPrinted old new (Err e) bytes = WritesFront old new bytes

-- of a reader: the bytes that it has still to give, where they are known, whether a read failed, and how many more reads it takes on
pub record Reading : Type 0 where
  pub left : Option (List ℕ)
  pub failed : Bool
  pub reads : ℕ

-- A read was asked for. It gave the first so many bytes of a buffer, and none to one with room only at the end; or it failed, and gave
-- none.
abbrev pub IsRead : {E : Type 0} → Reading → Reading → Result ℕ E → List ℕ → Type 0
IsRead old new (Ok count) buffer =
    Consumes old.left new.left (take count buffer) × (count ≡ 0 → 0 < length buffer → IsAtEnd new.left)
    × (new.failed ≡ false) × (new.reads < old.reads)
IsRead old new (Err e) buffer = Keeps old.left new.left × (new.failed ≡ true)
