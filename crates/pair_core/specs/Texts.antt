-- What the sealed texts say: each is the text of a checkpoint, makes the guest of its own epoch's end of the guest of the epoch before, and
-- carries the frames that the guest sent along its epoch.
use Rattle.std.specs.Prelude.{◌≡◌, ℕ, ◌+◌, List, [], ◌∷◌}
use Rattle.guest_rules.specs.declared.shapes.Shape.{Shape}
use Rattle.guest_rules.specs.Guest.{Guest}
use Rattle.epoch_snapshot.specs.Checkpoints.{Change}
use Rattle.epoch_snapshot.specs.Images.{image_of}
use Rattle.checkpoint_stream.specs.ReadBack.{ReadsBack}
use Rattle.pair_history.specs.Entries.{Frame, Entry}
use Rattle.pair_history.specs.HistoryState.{HistoryState, at, sent_along}

-- these bytes read back as a checkpoint of version 2, of this shape, generation and number, which makes the guest after of the guest before
-- and carries the frames sent, in order (Remus, 2008: a checkpoint carries what the epoch changed)
pub record IsText (shape : Shape) (generation number : ℕ) (before after : Guest) (sent : List Frame) (text : List ℕ) : Type 0 where
  pub change : Change
  pub reads_back : ReadsBack change text
  pub of_version : change.version ≡ 2
  pub of_shape : change.shape ≡ shape
  pub of_generation : change.generation ≡ generation
  pub of_number : change.number ≡ number
  pub image : image_of change before ≡ after
  pub frames : change.frames ≡ sent

-- The texts of sealed epochs, numbered from n on, where these are the epochs and the history's state before them is s: each makes the guest
-- at its epoch's end, and carries what the guest sent along that epoch.
abbrev pub AreTexts : Shape → ℕ → ℕ → HistoryState → List (List Entry) → List (List ℕ) → Type 0
AreTexts shape generation n s [] [] = Unit {0}
AreTexts shape generation n s (es ∷ ess) (text ∷ texts) =
    IsText shape generation n s.guest (at s es).guest (sent_along s es) text
    × AreTexts shape generation (n + 1) (at s es) ess texts
AreTexts shape generation n s [] (text ∷ texts) = ⊥
AreTexts shape generation n s (es ∷ ess) [] = ⊥
