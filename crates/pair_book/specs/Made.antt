-- What a sealed text makes: of the guest of the sealed state before it the guest of the one after, with the frames of its epoch.
use Rattle.std.specs.Prelude.{◌≡◌, ℕ, zero, suc, ◌*◌, List, [], length}
use Rattle.guest_rules.specs.declared.shapes.Shape.{Shape}
use Rattle.guest_rules.specs.Guest.{Guest}
use Rattle.epoch_snapshot.specs.Checkpoints.{Change}
use Rattle.epoch_snapshot.specs.Images.{image_of}
use Rattle.checkpoint_stream.specs.ReadBack.{ReadsBack}
use Rattle.pair_history.specs.Entries.{Frame}
use Rattle.pair_history.specs.HistoryState.{HistoryState, at}
use Rattle.growing_history.specs.Steps.{Step}
use Rattle.growing_history.specs.LogState.{LogState, sealed_state, state_at}
use Rattle.growing_history.specs.SealedTexts as texts
use Rattle.growing_history.specs.SealedTexts.{Makes}
use Rattle.growing_history.specs.Views.{Member}
use Rattle.pair_book.specs.declared.prepared.Prepared.{Prepared}
use Rattle.pair_book.specs.declared.prepared.Prepared.TheVariants as prepared
use Rattle.pair_book.specs.Settled.{epoch_of}

-- The pair's shape: as many bytes of memory and of disk as the guest has where the history starts.
pub record IsShape (start : HistoryState) (shape : Shape) : Type 0 where
  pub ram : length start.guest.ram ≡ 4096 * shape.pages
  pub sectors : length start.guest.sectors ≡ 512 * shape.sectors

-- These bytes read back as a checkpoint of the pair's shape, which carries the frames sent, in order, and makes the one guest of the other
-- (Remus, 2008: a checkpoint carries what the epoch changed).
pub record Reads (start : HistoryState) (text : List ℕ) (sent : List Frame) (from to : Guest) : Type 0 where
  pub change : Change
  pub reads_back : ReadsBack change text
  pub of_shape : IsShape start change.shape
  pub carries : change.frames ≡ sent
  pub makes : image_of change from ≡ to

-- Unless a commit is marked before it, each text that was sealed in these steps makes the guest after its epoch of the guest before it, a
-- full one of any guest, and carries the frames that the guest sends along the epoch.
abbrev pub AreMade : HistoryState → List Step → Type 0
AreMade start steps = texts.AreMade (Reads start) start steps

-- WHAT A RUNNER BRINGS beside an epoch of so many arrivals and steps, along which its guest sent these frames

-- a full checkpoint stands for no epoch
abbrev pub carried : ℕ → List Frame → List Frame
carried zero frames = []
carried (suc n) frames = frames

-- in a state where that epoch comes after what is sealed: the checkpoint's text makes the guest after it
abbrev pub MakesEpoch : HistoryState → LogState → ℕ → ℕ → List Frame → Prepared → Type 0
MakesEpoch start s arrivals steps frames prepared.Nothing = Unit {0}
MakesEpoch start s arrivals steps frames (prepared.Checkpoint c) =
    s.marked ≡ 0
    → Makes (Reads start) c.number c.text (carried c.number frames) (sealed_state s).guest
    (at (sealed_state s) (epoch_of s.handed arrivals steps)).guest

-- by what its seat has seen, if its runner is the live one's there
abbrev pub IsPrepared : HistoryState → Member → ℕ → ℕ → List Frame → Prepared → Type 0
IsPrepared start seat arrivals steps frames what =
    (state_at start seat.steps).runner ≡ seat.number → MakesEpoch start (state_at start seat.steps) arrivals steps frames what
