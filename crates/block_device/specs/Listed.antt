-- What a list of written sectors says of two states of one disk.
use Rattle.std.specs.Prelude.{◌≡◌, ℕ, true, false}
use Rattle.block_device.specs.Dirty.{is_in}
use Rattle.block_device.specs.Contents.{Contents, sector_at}

-- a disk changed in no sector but those of its list, and none was taken off the list
pub record IsListed (old new : Contents) : Type 0 where
  pub others : (i : ℕ) → is_in i new.dirty ≡ false → sector_at new i ≡ sector_at old i
  pub stays : (i : ℕ) → is_in i old.dirty ≡ true → is_in i new.dirty ≡ true
