-- A step sends few frames, each of a frame's length.
use Rattle.std.proofs.Common.{ℕ, ◌≤◌, ◌==◌, Bool, true, false, if◌then◌else◌, List, [], length, All, arith}
use Rattle.std.proofs.lemmas.List.Elements.{All-nil}
use Rattle.arrayvec.specs.ArrayVec.{ArrayVec}
use Rattle.virtio_mmio.specs.declared.states.DeviceState.{DeviceState}
use Rattle.virtio_mmio.specs.declared.actions.Action.{Action}
use Rattle.virtio_mmio.specs.declared.actions.Action.TheVariants as asks
use Rattle.net_device.specs.Frames.{IsFrame}
use Rattle.net_device.specs.Transmit.{Served, rests, served}
use Rattle.net_device.proofs.Few.{few_served}
use Rattle.guest_rules.specs.Guest.{Guest}
use Rattle.guest_rules.specs.Step.{acted, sent}
use Rattle.guest_rules.specs.laws.Cases.{step_case}

-- at most 64 frames
pub record AreFew (fs : List (ArrayVec ℕ)) : Type 0 where
  pub frames : All IsFrame fs
  pub most : length fs ≤ 64

none_sent : AreFew []
none_sent = record { frames = All-nil IsFrame; most = omega arith }

few_of_served : (ram : List ℕ) (net : DeviceState) → AreFew (served ram net).frames
few_of_served ram net =
    let few = few_served ram net in
    record { frames = few.frames; most = omega (arith, few.room) }

few_notified : (b : Bool) (x y : Served) → AreFew x.frames → AreFew y.frames → AreFew (if b then x else y).frames
few_notified true x y f h = f
few_notified false x y f h = h

few_acted : (ram : List ℕ) (net : DeviceState) (a : Action) → AreFew (acted ram net a).frames
few_acted ram net asks.None = none_sent
few_acted ram net (asks.Notify queue) = few_notified (queue == 1) (served ram net) (rests ram net) (few_of_served ram net) none_sent
few_acted ram net asks.Reset = none_sent

pub few_sent : (g : Guest) → AreFew (sent g)
unfolding sent
few_sent g =
    step_case (λ e. AreFew e.frames) g (record {
      trap = λ cause value. none_sent;
      goes_on = λ regs pc aligned. none_sent;
      loads = λ regs. none_sent;
      stores = λ offset n value inside. none_sent;
      sets_timer = λ register value. none_sent;
      serves = λ offset n value after is. few_acted g.ram after.state after.action;
      serves_disk = λ offset n value after is. none_sent;
      writes_csr = λ regs number value. none_sent;
      returns = none_sent;
    })
