-- What an operator is shown.
use Rattle.std.specs.Prelude.{ℕ, List, length, Option, if◌then◌else◌}
use Rattle.guest_rules.specs.Guest.{Guest, sector_in}
use Rattle.pair_history.specs.HistoryState.{HistoryState}
use Rattle.pair_record.specs.declared.event.Show.{Show}
use Rattle.pair_record.specs.Modes.{is_stopped}
use Rattle.pair_core.specs.Pair.{Pair, shown_state, live_state}

-- the guest that goes on: the live one, where the primary has stopped the image's; and what the history says of it
abbrev pub serving_guest : Pair → Guest
serving_guest w = if is_stopped w.protocol.state.mode then w.nodes.image.guest else w.nodes.live.guest

abbrev pub serving_state : Pair → HistoryState
serving_state w = if is_stopped w.protocol.state.mode then shown_state w else live_state w

-- that guest's steps, and how long the history is
abbrev pub shown : Pair → Show
shown w = record {
  mode = w.protocol.state.mode;
  generation = w.protocol.state.generation;
  pending = length w.protocol.state.pending;
  steps = (serving_guest w).steps;
  entries = length w.protocol.state.journal.history;
}

-- of the disk: the bytes of a sector of that guest's, none beyond it
abbrev pub shown_sector : Pair → ℕ → Option (List ℕ)
shown_sector w sector = sector_in (serving_guest w).sectors sector
