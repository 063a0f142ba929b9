-- A unit that breaks its rule fails the reading.
use Rattle.std.proofs.Common.{◌≡◌, ℕ, List, Bool, true, false}
use Rattle.checkpoint_stream.specs.{declared.rules.Row.Row, Readings.{Reading, failed, kept_number, kept_mask, kept_block, kept_sector}}

pub kept_number-false : (b : Bool) (r : Reading) (row : Row) (n : ℕ) → b ≡ false → kept_number b r row n ≡ failed r
unfolding kept_number
kept_number-false b r row n e = rw e

pub kept_mask-true : (b : Bool) (r : Reading) (left page mask : ℕ) → b ≡ true → kept_mask b r left page mask ≡ failed r
unfolding kept_mask
kept_mask-true b r left page mask e = rw e

pub kept_block-true : (b : Bool) (r : Reading) (left page more : ℕ) (block : List ℕ) → b ≡ true →
    kept_block b r left page more block ≡ failed r
unfolding kept_block
kept_block-true b r left page more block e = rw e

pub kept_sector-true : (b : Bool) (r : Reading) (left sector : ℕ) (bytes : List ℕ) → b ≡ true → kept_sector b r left sector bytes ≡ failed r
unfolding kept_sector
kept_sector-true b r left sector bytes e = rw e
