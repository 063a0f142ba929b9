-- The pending texts are those of the keeper's steps.
use Rattle.std.specs.Prelude.{◌≡◌, ℕ, ◌+◌, List, length, map, drop}
use Rattle.pair_history.specs.HistoryState.{HistoryState}
use Rattle.pair_record.specs.Protocol.{Record}
use Rattle.pair_record.specs.Window.{committed_count}
use Rattle.growing_history.specs.Steps.{Step}
use Rattle.growing_history.specs.LogState.{Epoch, state_at}
use Rattle.pair_book.specs.Packets.{PacketState}
use Rattle.pair_book.specs.Texts.{ArePending}

abbrev pub texts_of : List PacketState → List (List ℕ)
texts_of ps = map (λ p. p.text) ps

abbrev pub sealed_texts : List Epoch → List (List ℕ)
sealed_texts es = map (λ e. e.text) es

-- There is one of each pending checkpoint, and none else; and the texts of those that aren't committed are those of the sealed epochs.
pub record HasTexts (start : HistoryState) (steps : List Step) (r : Record) (ps : List PacketState) : Type 0 where
  pub pending : ArePending steps r.generation r.window.to_acknowledge ps
  pub count : r.window.to_acknowledge + length ps ≡ r.window.to_cut
  pub sealed : texts_of (drop (committed_count r.window) ps) ≡ sealed_texts (state_at start steps).sealed
