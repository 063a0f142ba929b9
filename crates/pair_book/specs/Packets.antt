-- What contracts see of a packet and of those that are pending, and what a packet's type keeps.
use Rattle.std.specs.Prelude.{◌≡◌, ℕ, List, [], Option, None}
use Rattle.epoch_snapshot.specs.Checkpoints.{Change}
use Rattle.checkpoint_stream.specs.ReadBack.{ReadsBack}

-- the text of the checkpoint of that generation and number
pub record PacketState : Type 0 where
  pub generation : ℕ
  pub number : ℕ
  pub text : List ℕ

-- The packets of the pending checkpoints, by rising number; and the number of the one that was given last in this generation, if one was.
pub record TextsState : Type 0 where
  pub packets : List PacketState
  pub given : Option ℕ

abbrev pub no_texts : TextsState
no_texts = record { packets = []; given = None }

-- these bytes read back as a checkpoint of version 2, of that generation and number
pub record IsTextOf (generation number : ℕ) (text : List ℕ) : Type 0 where
  pub change : Change
  pub reads_back : ReadsBack change text
  pub of_version : change.version ≡ 2
  pub of_generation : change.generation ≡ generation
  pub of_number : change.number ≡ number
