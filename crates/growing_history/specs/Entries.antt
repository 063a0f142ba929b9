-- A client's own entries, in a history and in its steps.
use Rattle.std.specs.Prelude.{◌≡◌, ℕ, ◌==◌, if◌then◌else◌, Bool, false, List, [], ◌∷◌, ◌++◌}
use Rattle.pair_history.specs.Entries.{Entry, Delivered, Refused, Took}
use Rattle.pair_history.specs.HistoryState.{HistoryState}
use Rattle.growing_history.specs.Steps.{What, Step, Added}
use Rattle.growing_history.specs.LogState.{history_of}

-- what this client called
abbrev pub is_of : ℕ → Entry → Bool
is_of c (Delivered d f n) = d == c
is_of c (Refused d f) = d == c
is_of c (Took d answer) = d == c
is_of c other = false

-- a client's own entries
abbrev pub own_entries : ℕ → List Entry → List Entry
own_entries c [] = []
own_entries c (e ∷ es) = if is_of c e then e ∷ own_entries c es else own_entries c es

-- the entries that steps announced
abbrev pub announced_in : What → List Entry
announced_in (Added es) = es
announced_in other = []

abbrev pub announced : List Step → List Entry
announced [] = []
announced (x ∷ xs) = announced_in x.what ++ announced xs

-- What a client's call makes of what it has seen: the history then, what came between, and the call's entries, which are one more call
-- of its own.
pub record IsCall (h : HistoryState) (c : ℕ) (old now : List Step) (es : List Entry) : Type 0 where
  pub seen : (between : List Entry) × (history_of h now ≡ (history_of h old ++ between) ++ es)
  pub mine : own_entries c (history_of h now) ≡ own_entries c (history_of h old) ++ es
