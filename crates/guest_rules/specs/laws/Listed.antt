-- Steps change only sectors of the list, and take none off it.
use Rattle.std.proofs.Common.{◌≡◌, ℕ, zero, suc, Bool, true, false, ◌==◌, ◌⊎◌, inl, inr, if◌then◌else◌, List, [], refl, ◌∙◌, subst}
use Rattle.bus_map.specs.declared.parts.TimerRegister.{TimerRegister}
use Rattle.bus_map.specs.declared.parts.TimerRegister.TheVariants.{Msip, Mtimecmp, Mtime}
use Rattle.virtio_mmio.specs.declared.states.DeviceState.{DeviceState}
use Rattle.virtio_mmio.specs.declared.actions.Action.{Action}
use Rattle.virtio_mmio.specs.declared.actions.Action.TheVariants as asks
use Rattle.block_device.specs.Contents.{Contents, contents_of}
use Rattle.block_device.specs.Dirty.{is_in}
use Rattle.block_device.specs.Disk.{disk_served}
use Rattle.block_device.specs.Listed.{IsListed}
use Rattle.block_device.proofs.Listed.{served_listed}
use Rattle.block_device.proofs.ListApart.{bytes_apart}
use Rattle.guest_rules.specs.Guest.{Guest}
use Rattle.guest_rules.specs.Runs.{after_steps, marked_in}
use Rattle.guest_rules.specs.Step.{Effect, disk_acted, timer_stored, next, marked}
use Rattle.guest_rules.specs.laws.Cases.{step_case}

same_listed : (c : Contents) → IsListed c c
same_listed c = record { others = λ i none. refl; stays = λ i here. here }

two_ways : (b : Bool) → (b ≡ true) ⊎ (b ≡ false)
two_ways true = inl refl
two_ways false = inr refl

then_listed : (a b c : Contents) → IsListed a b → IsListed b c → IsListed a c
then_listed a b c first second = record {
  others = λ i none. elim (two_ways (is_in i b.dirty)) [
    | inl here ↦ (let kept : is_in i c.dirty ≡ true = second.stays i here in let no : ⊥ = cc in absurd no)
    | inr gone ↦ second.others i none ∙ first.others i gone
  ];
  stays = λ i here. second.stays i (first.stays i here);
}

-- what the disk serves
served_left : (ram : List ℕ) (disk : DeviceState) (bytes dirty : List ℕ) →
    IsListed (contents_of bytes dirty) (contents_of (disk_served ram disk (contents_of bytes [])).kept.bytes
    (disk_served ram disk (contents_of bytes dirty)).kept.dirty)
served_left ram disk bytes dirty =
    let c : Contents = contents_of bytes dirty in
    let P : List ℕ → Type 0 = λ bs. IsListed c (contents_of bs (disk_served ram disk c).kept.dirty) in
    subst P (bytes_apart ram disk bytes dirty []) (served_listed ram disk c)

acted_left : (ram : List ℕ) (disk : DeviceState) (a : Action) (bytes dirty : List ℕ) →
    IsListed (contents_of bytes dirty) (contents_of (disk_acted ram disk (contents_of bytes []) a).kept.bytes
    (disk_acted ram disk (contents_of bytes dirty) a).kept.dirty)
acted_left ram disk asks.None bytes dirty = same_listed (contents_of bytes dirty)
acted_left ram disk (asks.Notify queue) bytes dirty = either (queue == 0)
  where
    either : (b : Bool) → IsListed (contents_of bytes dirty) (contents_of
        (if b then disk_served ram disk (contents_of bytes []) else
        record { ram = ram; state = disk; kept = contents_of bytes [] }).kept.bytes
        (if b then disk_served ram disk (contents_of bytes dirty) else
        record { ram = ram; state = disk; kept = contents_of bytes dirty }).kept.dirty)
    either true = served_left ram disk bytes dirty
    either false = same_listed (contents_of bytes dirty)
acted_left ram disk asks.Reset bytes dirty = same_listed (contents_of bytes dirty)

-- the step
abbrev Keeps : Guest → List ℕ → Effect → Type 0
Keeps g dirty e = IsListed (contents_of g.sectors dirty) (contents_of e.guest.sectors (e.marks dirty))

timer_keeps : (g : Guest) (dirty : List ℕ) (value : ℕ) (r : TimerRegister) →
    IsListed (contents_of g.sectors dirty) (contents_of (timer_stored g value r).sectors dirty)
timer_keeps g dirty value Msip = same_listed (contents_of g.sectors dirty)
timer_keeps g dirty value Mtimecmp = same_listed (contents_of g.sectors dirty)
timer_keeps g dirty value Mtime = same_listed (contents_of g.sectors dirty)

pub next-listed : (g : Guest) (dirty : List ℕ) → IsListed (contents_of g.sectors dirty) (contents_of (next g).sectors (marked g dirty))
unfolding next marked
next-listed g dirty =
    let same : IsListed (contents_of g.sectors dirty) (contents_of g.sectors dirty) = same_listed (contents_of g.sectors dirty) in
    step_case (Keeps g dirty) g (record {
      trap = λ cause value. same;
      goes_on = λ regs pc aligned. same;
      loads = λ regs. same;
      stores = λ offset n value inside. same;
      sets_timer = λ register value. timer_keeps g dirty value register;
      serves = λ offset n value after is. same;
      serves_disk = λ offset n value after is. acted_left g.ram after.state after.action g.sectors dirty;
      writes_csr = λ regs number value. same;
      returns = same;
    })

pub run-listed : (n : ℕ) (g : Guest) (dirty : List ℕ) → IsListed (contents_of g.sectors dirty)
    (contents_of (after_steps n g).sectors (marked_in n g dirty))
unfolding after_steps marked_in
run-listed zero g dirty = same_listed (contents_of g.sectors dirty)
run-listed (suc n) g dirty =
    then_listed (contents_of g.sectors dirty) (contents_of (next g).sectors (marked g dirty)) _ (next-listed g dirty)
    (run-listed n (next g) (marked g dirty))
