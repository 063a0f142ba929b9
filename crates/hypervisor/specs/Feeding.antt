-- What a backup answers to bytes: what its reader does. A checkpoint that was read whole stands apart, and the reader begins the next one.
use Rattle.std.specs.Prelude.{◌≡◌, ℕ, Bool, true, false, List, Result, Ok, Err, None, Some}
use Rattle.checkpoint_stream.specs.Readings.{Reading, begun, fed, taken, is_whole, failure_at}
use Rattle.checkpoint_stream.specs.Sound.{change_in}
use Rattle.checkpoint_stream.specs.declared.errors.StreamError.{StreamError}
use Rattle.checkpoint_stream.specs.declared.errors.StreamError.TheVariants.{Malformed, NoMemory}
use Rattle.hypervisor.specs.Backups.{BackupState}

-- once the reader has read so far, whole or not
abbrev pub with_reading : Bool → BackupState → Reading → BackupState
with_reading true b r = record b { reading = begun r.shape r.offset; read = Some (change_in r) }
with_reading false b r = record b { reading = r }

abbrev pub after_reading : BackupState → Reading → BackupState
after_reading b r = with_reading (is_whole r.place) b r

-- Where no checkpoint stands whole: the bytes are read, and the answer is how many were taken, or the offset of the unit that broke its
-- rule; or nothing changed, since memory was refused.
abbrev pub Feeds : BackupState → List ℕ → Result ℕ StreamError → BackupState → Type 0
Feeds old bytes (Ok count) new =
    (new ≡ after_reading old (fed old.reading bytes))
    × (count ≡ taken old.reading bytes)
    × (failure_at (fed old.reading bytes).place ≡ None)
Feeds old bytes (Err (Malformed offset)) new =
    (new ≡ record old { reading = fed old.reading bytes }) × (failure_at (fed old.reading bytes).place ≡ Some offset)
Feeds old bytes (Err (NoMemory _)) new = new ≡ old
