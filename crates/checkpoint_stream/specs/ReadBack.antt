-- A reader gives back what was written.
use Rattle.std.specs.Prelude.{◌≡◌, ℕ, List, length}
use Rattle.epoch_snapshot.specs.Checkpoints.{Change}
use Rattle.checkpoint_stream.specs.declared.place.Place.TheVariants.{Whole}
use Rattle.checkpoint_stream.specs.Readings.{begun, fed, taken}
use Rattle.checkpoint_stream.specs.Sound.{change_in}

-- these bytes, from the start of a checkpoint on and wherever that is in the stream, are taken whole, and read as this one
unfoldable pub ReadsBack : Change → List ℕ → Type 0
ReadsBack c bytes =
    (offset : ℕ) → ((fed (begun c.shape offset) bytes).place ≡ Whole) × (change_in (fed (begun c.shape offset) bytes) ≡ c)
    × (taken (begun c.shape offset) bytes ≡ length bytes)
