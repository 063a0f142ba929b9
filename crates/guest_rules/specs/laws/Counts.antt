-- No step changes the step count but by counting itself.
use Rattle.std.proofs.Common.{◌≡◌, ℕ, ◌+◌, ◌%◌, ◌^◌, refl, ap}
use Rattle.bus_map.specs.declared.parts.TimerRegister.{TimerRegister}
use Rattle.bus_map.specs.declared.parts.TimerRegister.TheVariants.{Msip, Mtimecmp, Mtime}
use Rattle.guest_rules.specs.Guest.{Guest}
use Rattle.guest_rules.specs.Step.{timer_stored, step_done, next}
use Rattle.guest_rules.specs.laws.Cases.{step_case}

timer_stored-steps : (g : Guest) (value : ℕ) (r : TimerRegister) → (timer_stored g value r).steps ≡ g.steps
timer_stored-steps g value Msip = refl
timer_stored-steps g value Mtimecmp = refl
timer_stored-steps g value Mtime = refl

step_done-steps : (g : Guest) → (step_done g).guest.steps ≡ g.steps
step_done-steps g =
    step_case (λ e. e.guest.steps ≡ g.steps) g (record {
      trap = λ cause value. refl;
      goes_on = λ regs pc aligned. refl;
      loads = λ regs. refl;
      stores = λ offset n value inside. refl;
      sets_timer = λ register value. timer_stored-steps g value register;
      serves = λ offset n value after is. refl;
      serves_disk = λ offset n value after is. refl;
      writes_csr = λ regs number value. refl;
      returns = refl;
    })

-- each step counts 1
pub steps-next : (g : Guest) → (next g).steps ≡ (g.steps + 1) % 2 ^ 64
unfolding next
steps-next g = ap (λ (n : ℕ). (n + 1) % 2 ^ 64) (step_done-steps g)
