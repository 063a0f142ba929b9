-- What a history is to its clients: each of their calls is answered as one guest that never fails, behind a line that may drop frames,
-- answers it there.
use Rattle.std.specs.Prelude.{◌≡◌, ◌≤◌, length, slice_get}
use Rattle.frame_ports.specs.Addresses.{IsFrame}
use Rattle.frame_ports.specs.Lands.{list_of}
use Rattle.frame_ports.specs.Limits.{inbox_frames}
use Rattle.pair_history.specs.Entries.{Entry, Delivered, Refused, Took}
use Rattle.pair_history.specs.HistoryState.{HistoryState, IsClient, inbox_of}

-- The answer to a client's call, by the state there: its frame gets the next number; or it isn't taken, since 64 of its frames wait; or
-- it takes the front of its box, nothing where that is empty.
abbrev pub GuestAnswers : HistoryState → Entry → Type 0
GuestAnswers s (Delivered c f n) = IsClient s c × IsFrame f × (n ≡ s.number)
GuestAnswers s (Refused c f) = IsClient s c × IsFrame f × (inbox_frames ≤ length (inbox_of c s.waiting))
GuestAnswers s (Took c answer) = IsClient s c × (answer ≡ slice_get (list_of s.boxes c) 0)
GuestAnswers s other = Unit {0}
