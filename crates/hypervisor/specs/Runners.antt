-- What contracts see of a runner, and what is true of each.
use Rattle.std.specs.Prelude.{◌≡◌, ℕ, ◌+◌, ◌<◌, ◌≤◌, List, [], length, All}
use Rattle.frame_ports.specs.Addresses.{IsFrame}
use Rattle.frame_ports.specs.Limits.{number_limit}
use Rattle.guest_rules.specs.Guest.{Guest, State}
use Rattle.epoch_snapshot.specs.Bases.{IsBase}
use Rattle.growing_history.specs.Views.{Member}
use Rattle.pair_history.specs.Entries.{Frame}
use Rattle.pair_history.specs.HistoryState.{HistoryState}
use Rattle.pair_book.specs.Settled as book
use Rattle.pair_book.specs.Settled.{Runs}
use Rattle.pair_book.specs.declared.prepared.Prepared.{Prepared}
use Rattle.pair_book.specs.declared.prepared.Prepared.TheVariants as prepared
use Rattle.hypervisor.specs.Preparing.{Suits}

pub record RunnerState : Type 0 where
  -- the machine whose guest it runs, last settled where its last epoch ended
  pub machine : State
  -- the frames that were handed out to it and haven't arrived, each with its number, in the order in which they are to arrive
  pub held : List (ℕ × Frame)
  -- the open epoch: how many frames arrived since the last submit, and how many steps the guest made after them
  pub arrivals : ℕ
  pub steps : ℕ
  -- what stands prepared for the next submit
  pub what : Prepared
  -- its seat
  pub seat : Member

abbrev pub runner_state : State → List (ℕ × Frame) → ℕ → ℕ → Prepared → Member → RunnerState
runner_state machine held arrivals steps what seat =
    record { machine = machine; held = held; arrivals = arrivals; steps = steps; what = what; seat = seat }

-- one that got this machine, and has run nothing yet
abbrev pub new_runner : State → Member → RunnerState
new_runner machine seat = runner_state machine [] 0 0 prepared.Nothing seat

-- a guest of the pair's size: it has as much memory and as much disk as the guest where the history starts
pub record IsSized (start : HistoryState) (g : Guest) : Type 0 where
  pub ram : length g.ram ≡ length start.guest.ram
  pub sectors : length g.sectors ≡ length start.guest.sectors

-- what the book's laws take of a runner whose machine was last settled with this guest
abbrev pub outside : RunnerState → Guest → book.RunnerOutside
outside r settled = book.runner_outside r.arrivals r.steps r.held r.machine.guest r.machine.outbox settled

-- It runs on from a guest with which its machine was last settled.
pub record RunsFromSettled (start : HistoryState) (r : RunnerState) : Type 0 where
  pub settled : Guest
  pub base : IsBase r.machine settled
  pub runs : Runs start r.seat (outside r settled)

pub record IsRunner (start : HistoryState) (r : RunnerState) : Type 0 where
  -- what it holds are frames, and they arrive before anything else of an epoch
  pub frames : All (λ (x : ℕ × Frame). IsFrame x.1) r.held
  pub first : 0 < r.arrivals + r.steps → r.held ≡ []
  -- no submit takes an epoch of more steps than the history has entries at most
  pub few : r.steps ≤ number_limit
  pub prepared : Suits r.machine r.what
  pub sized : IsSized start r.machine.guest
  pub runs : RunsFromSettled start r
