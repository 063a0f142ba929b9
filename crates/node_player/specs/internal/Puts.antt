-- What was written so far, of an answer that is written in parts.
use Rattle.std.specs.Prelude.{◌≡◌, false, List, ℕ}
use Rattle.std.specs.Io.KnownBytes.{Appends}
use Rattle.script_player.specs.Streams.{Writing}

-- This was written, and none had failed before if none has.
pub record HasPut (old new : Writing) (bytes : List ℕ) : Type 0 where
  pub all : Appends old.bytes new.bytes bytes
  pub well : new.failed ≡ false → old.failed ≡ false
