-- What a failure adds to the history. Where the primary fails, the backup goes live from the history's state: what uncommitted epochs
-- took in is dropped, by rising number, and then what is owed to clients lands, in the order sent, each client rising; a full box drops
-- it. Where the backup fails, all that was kept stays, and nothing is held any more; a node that is alone holds nothing.
use Rattle.std.specs.Prelude.{ℕ, if◌then◌else◌, nat_le, List, [], ◌∷◌, ◌++◌, map}
use Rattle.pair_history.specs.Entries.{Entry, Ran, Arrive, DropIn}
use Rattle.pair_history.specs.HistoryState.{HistoryState, after, at}
use Rattle.pair_history.specs.Landings.{landings}

-- the numbers of the frames that arrived, in the order in which they did
abbrev pub arrived_numbers : List Entry → List ℕ
arrived_numbers [] = []
arrived_numbers (Arrive n ∷ es) = n ∷ arrived_numbers es
arrived_numbers (other ∷ es) = arrived_numbers es

-- a number put before the first that isn't below it, and numbers put in rising order so
abbrev pub put_rising : ℕ → List ℕ → List ℕ
put_rising n [] = n ∷ []
put_rising n (m ∷ ms) = if nat_le n m then n ∷ m ∷ ms else m ∷ put_rising n ms

abbrev pub rising : List ℕ → List ℕ
rising [] = []
rising (n ∷ ns) = put_rising n (rising ns)

-- each frame that kept entries took in is dropped before it arrives, by rising number
abbrev pub drops_of_taken_in : List Entry → List Entry
drops_of_taken_in kept = map DropIn (rising (arrived_numbers kept))

-- all that is on its way lands, in the order sent
abbrev pub all_land : HistoryState → List Entry
all_land s = landings s.boxes s.out

-- What is added where the backup goes live at the history's state s, and the kept entries are discarded.
abbrev pub go_live_entries : HistoryState → List Entry → List Entry
go_live_entries s kept = drops_of_taken_in kept ++ all_land s

-- What is added where the backup fails: all that was kept, and then what is on its way after it lands.
abbrev pub fail_backup_entries : HistoryState → List Entry → List Entry
fail_backup_entries s kept = kept ++ all_land (at s kept)

-- What is added by a step of a node that is alone: what it sends lands at once.
abbrev pub alone_step_entries : HistoryState → List Entry
alone_step_entries s = Ran ∷ all_land (after s Ran)

-- the numbers of the frames that were dropped before they arrived, in the order in which they were
abbrev pub dropped_numbers : List Entry → List ℕ
dropped_numbers [] = []
dropped_numbers (DropIn n ∷ es) = n ∷ dropped_numbers es
dropped_numbers (other ∷ es) = dropped_numbers es
