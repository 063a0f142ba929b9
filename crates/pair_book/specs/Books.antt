-- What contracts see of a book.
use Rattle.std.specs.Prelude.{ℕ, List, []}
use Rattle.frame_ports.specs.Lands.{list_of}
use Rattle.frame_ports.specs.Ports.{PortsState, empty_ports}
use Rattle.pair_history.specs.Entries.{Frame}
use Rattle.pair_history.specs.HistoryState.{Waiting, inbox_of, at}
use Rattle.pair_record.specs.Protocol.{Record}
use Rattle.pair_record.specs.Record.{start_record}
use Rattle.growing_history.specs.Steps.{Step}
use Rattle.growing_history.specs.LogState.{LogState, under_way}
use Rattle.pair_book.specs.Packets.{TextsState, no_texts}

pub record BookState : Type 0 where
  -- the steps that the keeper has made; the word is their number
  pub steps : List Step
  -- how many numbers of seats were given out
  pub enrolled : ℕ
  -- the pair's record, and the clients' inboxes and boxes
  pub protocol : Record
  pub ports : PortsState
  -- the texts of the pending checkpoints
  pub texts : TextsState

-- nothing happened yet, to a pair of so many clients
abbrev pub start_book : ℕ → ℕ → BookState
start_book clients enrolled =
    record { steps = []; enrolled = enrolled; protocol = start_record; ports = empty_ports clients; texts = no_texts }

-- WHAT INBOXES AND BOXES HOLD, where the steps lead to that state

-- what still waits once all that is under way has arrived
abbrev pub waits_at_last : LogState → List Waiting
waits_at_last s = (at s.history (under_way s)).waiting

-- the frames of client c's inbox, each with its number; and those of its box
abbrev pub inbox_at : LogState → ℕ → List (ℕ × Frame)
inbox_at s c = inbox_of c (waits_at_last s)

abbrev pub box_at : LogState → ℕ → List Frame
box_at s c = list_of s.history.boxes c
