-- What a runner has outside the lock, and what it brings, that was settled when its seat last looked.
use Rattle.std.specs.Prelude.{◌≡◌, ℕ, ◌≤◌, List, [], ◌++◌, length, map, take, drop, replicate, All, Some}
use Rattle.guest_rules.specs.Guest.{Guest}
use Rattle.pair_history.specs.Entries.{Frame, Entry, Arrive, Ran}
use Rattle.pair_history.specs.HistoryState.{HistoryState, at, sent_along, frame_numbered}
use Rattle.growing_history.specs.LogState.{LogState, state_at, sealed_state}
use Rattle.growing_history.specs.Views.{Member}

-- the epoch of so many arrivals of these frames that were handed out, the first first, and so many steps after them
abbrev pub epoch_of : List ℕ → ℕ → ℕ → List Entry
epoch_of handed arrivals steps = map Arrive (take arrivals handed) ++ replicate steps Ran

-- By what its seat has seen: its number is at most the live runner's; and where it is that one, no more arrived than was handed out to it,
-- and, unless a commit is marked, these frames are what the guest sends along the epoch from the sealed state.
pub record EpochFollows (start : HistoryState) (seat : Member) (arrivals steps : ℕ) (frames : List Frame) : Type 0 where
  pub born : seat.number ≤ (state_at start seat.steps).runner
  pub held : (state_at start seat.steps).runner ≡ seat.number → arrivals ≤ length (state_at start seat.steps).handed
  pub sent : (state_at start seat.steps).runner ≡ seat.number → (state_at start seat.steps).marked ≡ 0
      → frames ≡ sent_along (sealed_state (state_at start seat.steps)) (epoch_of (state_at start seat.steps).handed arrivals steps)

-- ALL THAT IT HAS

pub record RunnerOutside : Type 0 where
  -- since its last epoch ended: how many of the frames that it was handed arrived, the first first, and how many steps came after them
  pub arrivals : ℕ
  pub steps : ℕ
  -- the frames that it was handed and that haven't arrived, each with its number
  pub held : List (ℕ × Frame)
  -- its machine's guest, and what that sent along the epoch
  pub guest : Guest
  pub outbox : List Frame
  -- the guest of the machine when it was last settled
  pub settled : Guest

abbrev pub runner_outside : ℕ → ℕ → List (ℕ × Frame) → Guest → List Frame → Guest → RunnerOutside
runner_outside arrivals steps held guest outbox settled =
    record { arrivals = arrivals; steps = steps; held = held; guest = guest; outbox = outbox; settled = settled }

abbrev pub numbers_of : List (ℕ × Frame) → List ℕ
numbers_of xs = map (λ (x : ℕ × Frame). x.0) xs

-- one of a machine that was settled with this guest, and has run no epoch since; it holds these frames
abbrev pub settled_runner : Guest → List (ℕ × Frame) → RunnerOutside
settled_runner g held = runner_outside 0 0 held g [] g

-- What it has follows from the sealed state: the frames that it holds wait there under their numbers; its machine was last settled there;
-- and its guest is the one after its epoch, along which that sent what is in the outbox.
pub record Follows (s : LogState) (x : RunnerOutside) : Type 0 where
  pub held : All (λ (p : ℕ × Frame). frame_numbered p.0 (sealed_state s).waiting ≡ Some p.1) x.held
  pub settled : x.settled ≡ (sealed_state s).guest
  pub guest : x.guest ≡ (at (sealed_state s) (epoch_of s.handed x.arrivals x.steps)).guest
  pub outbox : x.outbox ≡ sent_along (sealed_state s) (epoch_of s.handed x.arrivals x.steps)

-- A runner runs on, by what its seat has seen: its number is at most the live runner's; and where it is that one, what arrived and then
-- what it holds is what was handed out to it, and, unless a commit is marked, what it has follows from the sealed state.
pub record Runs (start : HistoryState) (seat : Member) (x : RunnerOutside) : Type 0 where
  pub born : seat.number ≤ (state_at start seat.steps).runner
  pub came : (state_at start seat.steps).runner ≡ seat.number → x.arrivals ≤ length (state_at start seat.steps).handed
  pub holds : (state_at start seat.steps).runner ≡ seat.number → numbers_of x.held ≡ drop x.arrivals (state_at start seat.steps).handed
  pub follows : (state_at start seat.steps).runner ≡ seat.number → (state_at start seat.steps).marked ≡ 0
      → Follows (state_at start seat.steps) x

-- A runner that ran on when its epoch of so many arrivals and steps ended, along which its guest sent these frames, runs on from that
-- guest, once its machine is settled there: it holds what it held, and then what it is handed now.
abbrev pub RunsOn : HistoryState → Member → Member → ℕ → ℕ → List Frame → List (ℕ × Frame) → Type 0
RunsOn start seat seat' arrivals steps frames next =
    (held : List (ℕ × Frame)) (guest settled : Guest) → Runs start seat (runner_outside arrivals steps held guest frames settled)
    → Runs start seat' (settled_runner guest (held ++ next))
