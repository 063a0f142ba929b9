-- A run: what the runner holds arrives at the guest, and then the guest makes steps until it is to stop.
use Rattle.std.specs.Prelude.{◌≡◌, ℕ, ◌+◌, ◌-◌, min, List, [], ◌∷◌, ◌++◌, length, map}
use Rattle.frame_ports.specs.Limits.{number_limit}
use Rattle.guest_rules.specs.Guest.{Guest}
use Rattle.guest_rules.specs.Runs.{after_steps, sent_in, marked_in, HaveRoom}
use Rattle.guest_rules.specs.Step.{arrived}
use Rattle.pair_history.specs.Entries.{Frame}
use Rattle.pair_book.specs.declared.prepared.Prepared.TheVariants as prepared
use Rattle.hypervisor.specs.Runners.{RunnerState}

-- the guest after these frames arrived, the first first
abbrev pub after_arrivals : Guest → List Frame → Guest
after_arrivals g [] = g
after_arrivals g (f ∷ fs) = after_arrivals (arrived g f) fs

abbrev pub frames_of : List (ℕ × Frame) → List Frame
frames_of held = map (λ (x : ℕ × Frame). x.1) held

-- the guest that makes the steps of a run
abbrev pub guest_ready : RunnerState → Guest
guest_ready r = after_arrivals r.machine.guest (frames_of r.held)

-- of so many steps as are asked for, those that the open epoch has room for
abbrev pub steps_asked : ℕ → RunnerState → ℕ
steps_asked steps r = min steps (number_limit - r.steps)

-- A run of so many steps: what was held has arrived; then the guest made these steps, each with room in the outbox for what it may send;
-- they are the open epoch's, and nothing stands prepared.
pub record HasRun (made : ℕ) (old new : RunnerState) : Type 0 where
  pub guest : new.machine.guest ≡ after_steps made (guest_ready old)
  pub outbox : new.machine.outbox ≡ old.machine.outbox ++ sent_in made (guest_ready old)
  pub dirty : new.machine.dirty ≡ marked_in made (guest_ready old) old.machine.dirty
  pub settled : new.machine.settled ≡ old.machine.settled
  pub room : HaveRoom made (guest_ready old) old.machine.outbox
  pub held : new.held ≡ []
  pub arrivals : new.arrivals ≡ old.arrivals + length old.held
  pub steps : new.steps ≡ old.steps + made
  pub what : new.what ≡ prepared.Nothing
  pub seat : new.seat ≡ old.seat
