-- What is written where more was printed than could be.
use Rattle.std.proofs.Common.{ℕ, List, ◌++◌, append_assoc, sym, ap, ◌∙◌}
use Rattle.std.proofs.KnownBytes.{Appends-trans}
use Rattle.std.specs.Io.KnownBytes.{Appends}
use Rattle.script_player.specs.Streams.{Writing, WritesFront}

module _ (o m o' : Writing) (text : List ℕ) (all : Appends o.bytes m.bytes text) where
  -- more was printed, of which the first was written
  pub front-after : (more : List ℕ) → WritesFront m o' more → WritesFront o o' (text ++ more)
  front-after more w = record {
    front = (
      text ++ w.front.0,
      w.front.1,
      ap (λ l. text ++ l) w.front.2 ∙ sym (append_assoc text w.front.0 w.front.1),
      Appends-trans o.bytes m.bytes o'.bytes text w.front.0 all w.front.3,
    );
    badly = w.badly;
  }
