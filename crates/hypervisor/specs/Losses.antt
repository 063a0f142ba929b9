-- What a loss makes of what the line's seat has seen.
use Rattle.std.specs.Prelude.{◌≡◌, ℕ, List, [], ◌∷◌, ◌++◌, slice_get, None, Some}
use Rattle.pair_history.specs.Entries.{Entry, Frame, DropIn, DropOut}
use Rattle.pair_history.specs.HistoryState.{HistoryState}
use Rattle.growing_history.specs.Steps.{Added, Step}
use Rattle.growing_history.specs.LogState.{LogState, line_seat, state_at}
use Rattle.pair_book.specs.Books.{inbox_at, box_at}
use Rattle.pair_book.specs.declared.losses.Lost.{Lost}
use Rattle.pair_book.specs.declared.losses.Lost.TheVariants.{Dropped, Empty}
use Rattle.hypervisor.specs.Seats.{MakesStep, Looks}

-- the line's step tells this entry
abbrev pub Drops : HistoryState → Entry → List Step → List Step → Type 0
Drops start e old new = MakesStep start line_seat (Added (e ∷ [])) old new

-- the state in which a member made its step
abbrev pub state_before : (start : HistoryState) → List Step → (between : List Step) → LogState
state_before start old between = state_at start (old ++ between)

-- The frame at this place of this client's inbox was dropped, under its number; or none stood there, and the seat has looked.
abbrev pub AfterLossIn : HistoryState → ℕ → ℕ → Lost → List Step → List Step → Type 0
AfterLossIn start c place Dropped old new =
    (n : ℕ)
    × (f : Frame)
    × (drops : Drops start (DropIn n) old new)
    × (slice_get (inbox_at (state_before start old drops.seen.0) c) place ≡ Some (n, f))
AfterLossIn start c place Empty old new =
    Looks start line_seat old new × (slice_get (inbox_at (state_at start new) c) place ≡ None)

-- so too of its box, whose frames are those of the history unless a commit is marked
abbrev pub AfterLossOut : HistoryState → ℕ → ℕ → Lost → List Step → List Step → Type 0
AfterLossOut start c place Dropped old new =
    (drops : Drops start (DropOut c place) old new)
    × ((state_before start old drops.seen.0).marked ≡ 0
    → (f : Frame) × (slice_get (box_at (state_before start old drops.seen.0) c) place ≡ Some f))
AfterLossOut start c place Empty old new =
    Looks start line_seat old new
    × ((state_at start new).marked ≡ 0 → slice_get (box_at (state_at start new) c) place ≡ None)
