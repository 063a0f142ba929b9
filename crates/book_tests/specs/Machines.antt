-- What the runner's machine is to the pair, and what its checkpoints are, where it was settled and has made no step since.
use Rattle.std.specs.Prelude.{◌≡◌, ◌*◌, [], length}
use Rattle.guest_rules.specs.Guest.{Guest}
use Rattle.epoch_snapshot.specs.Checkpoints.{Change}
use Rattle.epoch_snapshot.specs.Images.{image_of}
use Rattle.pair_history.specs.HistoryState.{HistoryState}

-- The guest has as many bytes of memory and of disk as the one where the history starts.
pub record IsLike (start : HistoryState) (g : Guest) : Type 0 where
  pub ram : length start.guest.ram ≡ length g.ram
  pub sectors : length start.guest.sectors ≡ length g.sectors

-- A checkpoint of that guest's machine carries no frames, and makes the guest again: of itself, and a full one of any.
pub record Repeats (g : Guest) (c : Change) : Type 0 where
  pub version : c.version ≡ 2
  pub ram : length g.ram ≡ 4096 * c.shape.pages
  pub sectors : length g.sectors ≡ 512 * c.shape.sectors
  pub frames : c.frames ≡ []
  pub again : image_of c g ≡ g
  pub full : c.number ≡ 0 → (base : Guest) → image_of c base ≡ g
