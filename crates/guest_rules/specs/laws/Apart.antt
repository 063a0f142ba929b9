-- A step changes what one device keeps at most, and keeps the number of the disk's sectors.
use Rattle.std.proofs.Common.{◌≡◌, ℕ, ◌⊎◌, inl, inr, refl}
use Rattle.arrayvec.specs.ArrayVec.{ArrayVec}
use Rattle.bus_map.specs.declared.parts.TimerRegister.{TimerRegister}
use Rattle.bus_map.specs.declared.parts.TimerRegister.TheVariants.{Msip, Mtimecmp, Mtime}
use Rattle.guest_rules.specs.Guest.{Guest}
use Rattle.guest_rules.specs.Step.{timer_stored, next, arrived}
use Rattle.guest_rules.specs.laws.Cases.{step_case}

-- the network card is as it was, or else the disk is
abbrev pub Apart : Guest → Guest → Type 0
Apart g h = (h.net ≡ g.net) ⊎ ((h.disk ≡ g.disk) × (h.sectors ≡ g.sectors))

timer_apart : (g : Guest) (value : ℕ) (r : TimerRegister) → Apart g (timer_stored g value r)
timer_apart g value Msip = inl refl
timer_apart g value Mtimecmp = inl refl
timer_apart g value Mtime = inl refl

pub next-apart : (g : Guest) → Apart g (next g)
unfolding next
next-apart g =
    step_case (λ e. Apart g e.guest) g (record {
      trap = λ cause value. inl refl;
      goes_on = λ regs pc aligned. inl refl;
      loads = λ regs. inl refl;
      stores = λ offset n value inside. inl refl;
      sets_timer = λ register value. timer_apart g value register;
      serves = λ offset n value after is. inr (refl, refl);
      serves_disk = λ offset n value after is. inl refl;
      writes_csr = λ regs number value. inl refl;
      returns = inl refl;
    })

pub arrived-apart : (g : Guest) (frame : ArrayVec ℕ) → ((arrived g frame).disk ≡ g.disk) × ((arrived g frame).sectors ≡ g.sectors)
unfolding arrived
arrived-apart g frame = (refl, refl)
