-- The journal: the history, and what happened to the guest that the history doesn't have yet, epoch by epoch.
use Rattle.std.specs.Prelude.{ℕ, Bool, if◌then◌else◌, List, [], ◌∷◌, ◌++◌}
use Rattle.pair_history.specs.Entries.{Entry}

pub record Journal : Type 0 where
  pub history : List Entry
  -- the sealed epochs whose checkpoints no commit has covered yet, the oldest first
  pub sealed : List (List Entry)
  -- the epoch that runs
  pub running : List Entry

-- lists, one after another
abbrev pub joined : List (List Entry) → List Entry
joined [] = []
joined (es ∷ ess) = es ++ joined ess

-- what doesn't stand in the history yet: the kept entries
abbrev pub kept_entries : Journal → List Entry
kept_entries j = joined j.sealed ++ j.running

-- the history followed by the kept entries
abbrev pub all_entries : Journal → List Entry
all_entries j = j.history ++ kept_entries j

-- nothing happened yet
abbrev pub empty_journal : Journal
empty_journal = record { history = []; sealed = []; running = [] }

-- the history goes on by these entries, or the running epoch does
abbrev pub with_history : Journal → List Entry → Journal
with_history j es = record j { history = j.history ++ es }

abbrev pub with_running : Journal → List Entry → Journal
with_running j es = record j { running = j.running ++ es }

-- an epoch is sealed, and this runs on; or the epoch that runs is, and the next one begins
abbrev pub sealed_as : List Entry → List Entry → Journal → Journal
sealed_as epoch rest j = record j { sealed = j.sealed ++ epoch ∷ []; running = rest }

abbrev pub sealed_off : Journal → Journal
sealed_off j = sealed_as j.running [] j

abbrev pub first_of : List (List Entry) → List Entry
first_of [] = []
first_of (es ∷ ess) = es

abbrev pub rest_of : List (List Entry) → List (List Entry)
rest_of [] = []
rest_of (es ∷ ess) = ess

-- the oldest sealed epoch moves to the history
abbrev pub committed : Journal → Journal
committed j = record j { history = j.history ++ first_of j.sealed; sealed = rest_of j.sealed }

-- what is sealed moves to the history, and behind it this epoch, and this runs on
abbrev pub entered : List Entry → List Entry → Journal → Journal
entered epoch rest j = record { history = j.history ++ (joined j.sealed ++ epoch); sealed = []; running = rest }

-- all that is kept moves to the history; or it is discarded
abbrev pub all_committed : Journal → Journal
all_committed j = entered j.running [] j

abbrev pub discarded : Journal → Journal
discarded j = record j { sealed = []; running = [] }

-- what the guest does goes into the epoch that runs, and where nothing is kept into the history
abbrev pub with_moves : Bool → Journal → List Entry → Journal
with_moves at_once j es = if at_once then with_history j es else with_running j es

-- What contracts see of a stored journal: the journal, and how many more stored entries, with how many bytes of frames, its history,
-- and how many more arrivals its running epoch, take without memory.
pub record Stored : Type 0 where
  pub journal : Journal
  pub room : ℕ
  pub byte_room : ℕ
  pub arrival_room : ℕ
