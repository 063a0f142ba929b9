-- A step keeps the number of the memory's bytes and of the disk's sectors, and the rules of both devices' records.
use Rattle.std.proofs.Common.{◌≡◌, ℕ, ◌*◌, ◌/◌, ◌==◌, Bool, true, false, if◌then◌else◌, List, [], length, arith, refl, sym, ap, ◌∙◌, subst}
use Rattle.std.proofs.lemmas.List.{length-replicate}
use Rattle.arrayvec.specs.ArrayVec.{ArrayVec}
use Rattle.byteorder.specs.Numbers.{length-bytes_low_first}
use Rattle.bus_map.specs.declared.parts.TimerRegister.{TimerRegister}
use Rattle.bus_map.specs.declared.parts.TimerRegister.TheVariants.{Msip, Mtimecmp, Mtime}
use Rattle.virtqueue.specs.Queues.{boot_queue}
use Rattle.virtio_mmio.specs.declared.kinds.DeviceKind.TheVariants.{Network, Block}
use Rattle.virtio_mmio.specs.declared.states.DeviceState.{DeviceState}
use Rattle.virtio_mmio.specs.declared.actions.Action.{Action}
use Rattle.virtio_mmio.specs.declared.actions.Action.TheVariants as asks
use Rattle.virtio_mmio.specs.States.{IsQueueRecord, IsDeviceRecord}
use Rattle.virtio_mmio.specs.ServingLoop.{Served as DiskServed, standing}
use Rattle.virtio_mmio.proofs.Rules.{stored-rules}
use Rattle.net_device.specs.Transmit.{Served, rests, served}
use Rattle.net_device.proofs.Kept.{served-length, served-rules, received-length, received-rules}
use Rattle.block_device.specs.Contents.{Contents, contents_of, capacity}
use Rattle.block_device.specs.Disk.{disk_served}
use Rattle.block_device.proofs.Serving.{disk_size}
use Rattle.block_device.proofs.Kept.{disk_served-length, disk_served-rules, disk_served-capacity}
use Rattle.guest_rules.specs.Guest.{Guest, sector_count, disk_kind, HasDeviceRecords, boot_guest}
use Rattle.guest_rules.specs.Step.{acted, disk_acted, timer_stored, step_done, next, arrived}
use Rattle.paged_memory.specs.laws.Bytes.{length-with_number}
use Rattle.guest_rules.specs.laws.Cases.{step_case}

-- what stays of a guest g in one that came from it: the number of the bytes and of the sectors, and the records' rules
pub record IsKept (g h : Guest) : Type 0 where
  pub bytes : length h.ram ≡ length g.ram
  pub sectors : sector_count h.sectors ≡ sector_count g.sectors
  pub rules : HasDeviceRecords h

-- ---- the network card

record NetKept (size : ℕ) (ram : List ℕ) (net : DeviceState) : Type 0 where
  bytes : length ram ≡ size
  rules : IsDeviceRecord Network net

net_kept_by : (b : Bool) (x y : Served) (size : ℕ) → NetKept size x.ram x.net → NetKept size y.ram y.net →
    NetKept size (if b then x else y).ram (if b then x else y).net
net_kept_by true x y size f h = f
net_kept_by false x y size f h = h

acted_kept : (ram : List ℕ) (net : DeviceState) (a : Action) → IsDeviceRecord Network net →
    NetKept (length ram) (acted ram net a).ram (acted ram net a).net
acted_kept ram net asks.None h = record { bytes = refl; rules = h }
acted_kept ram net (asks.Notify queue) h =
    net_kept_by (queue == 1) (served ram net) (rests ram net) (length ram)
    (record { bytes = served-length ram net h; rules = served-rules ram net h }) (record { bytes = refl; rules = h })
acted_kept ram net asks.Reset h = record { bytes = refl; rules = h }

-- ---- the disk

record DiskKept (size count : ℕ) (s : DiskServed Contents) : Type 0 where
  bytes : length s.ram ≡ size
  sectors : sector_count s.kept.bytes ≡ count
  rules : IsDeviceRecord (Block count) s.state

disk_kept_by : (b : Bool) (x y : DiskServed Contents) (size count : ℕ) → DiskKept size count x → DiskKept size count y →
    DiskKept size count (if b then x else y)
disk_kept_by true x y size count f h = f
disk_kept_by false x y size count f h = h

disk_acted_kept : (ram : List ℕ) (disk : DeviceState) (c : Contents) (a : Action) → IsDeviceRecord (Block (sector_count c.bytes)) disk →
    DiskKept (length ram) (sector_count c.bytes) (disk_acted ram disk c a)
disk_acted_kept ram disk c asks.None h = record { bytes = refl; sectors = refl; rules = h }
disk_acted_kept ram disk c (asks.Notify queue) h =
    disk_kept_by (queue == 0) (disk_served ram disk c) (standing ram disk c) (length ram) (sector_count c.bytes)
    (record { bytes = disk_served-length ram disk c h; sectors = disk_served-capacity ram disk c; rules = disk_served-rules ram disk c h })
    (record { bytes = refl; sectors = refl; rules = h })
disk_acted_kept ram disk c asks.Reset h = record { bytes = refl; sectors = refl; rules = h }

disk_rules : (count n : ℕ) (d : DeviceState) → n ≡ count → IsDeviceRecord (Block count) d → IsDeviceRecord (Block n) d
disk_rules count n d e h = subst (λ (m : ℕ). IsDeviceRecord (Block m) d) (sym e) h

-- ---- the step

timer_kept : (g : Guest) (value : ℕ) (r : TimerRegister) → HasDeviceRecords g → IsKept g (timer_stored g value r)
timer_kept g value Msip h = record { bytes = refl; sectors = refl; rules = record { net = h.net; disk = h.disk } }
timer_kept g value Mtimecmp h = record { bytes = refl; sectors = refl; rules = record { net = h.net; disk = h.disk } }
timer_kept g value Mtime h = record { bytes = refl; sectors = refl; rules = record { net = h.net; disk = h.disk } }

step_done-kept : (g : Guest) → HasDeviceRecords g → IsKept g (step_done g).guest
step_done-kept g h =
    step_case (λ e. IsKept g e.guest) g (record {
      trap = λ cause value. record { bytes = refl; sectors = refl; rules = record { net = h.net; disk = h.disk } };
      goes_on = λ regs pc aligned. record { bytes = refl; sectors = refl; rules = record { net = h.net; disk = h.disk } };
      loads = λ regs. record { bytes = refl; sectors = refl; rules = record { net = h.net; disk = h.disk } };
      stores = λ offset n value inside. record {
        bytes = length-with_number g.ram offset n value inside (length-bytes_low_first 0 n value);
        sectors = refl;
        rules = record { net = h.net; disk = h.disk };
      };
      sets_timer = λ register value.
          let after = timer_kept g value register h in
          record { bytes = after.bytes; sectors = after.sectors; rules = record { net = after.rules.net; disk = after.rules.disk } };
      serves = λ offset n value after is.
          let kept = acted_kept g.ram after.state after.action (stored-rules Network g.net offset n value after is h.net) in
          record { bytes = kept.bytes; sectors = refl; rules = record { net = kept.rules; disk = h.disk } };
      serves_disk = λ offset n value after is.
          let kept = disk_acted_kept g.ram after.state (contents_of g.sectors []) after.action
          (stored-rules (disk_kind g) g.disk offset n value after is h.disk) in
          record {
            bytes = kept.bytes;
            sectors = kept.sectors;
            rules = record { net = h.net; disk = disk_rules (sector_count g.sectors) _ _ kept.sectors kept.rules };
          };
      writes_csr = λ regs number value. record { bytes = refl; sectors = refl; rules = record { net = h.net; disk = h.disk } };
      returns = record { bytes = refl; sectors = refl; rules = record { net = h.net; disk = h.disk } };
    })

pub next-kept : (g : Guest) → HasDeviceRecords g → IsKept g (next g)
unfolding next
next-kept g h =
    let after = step_done-kept g h in
    record { bytes = after.bytes; sectors = after.sectors; rules = record { net = after.rules.net; disk = after.rules.disk } }

pub arrived-bytes : (g : Guest) (frame : ArrayVec ℕ) → IsDeviceRecord Network g.net → length (arrived g frame).ram ≡ length g.ram
unfolding arrived
arrived-bytes g frame h = received-length g.ram g.net frame h

pub arrived-kept : (g : Guest) (frame : ArrayVec ℕ) → HasDeviceRecords g → IsKept g (arrived g frame)
unfolding arrived
arrived-kept g frame h = record {
  bytes = arrived-bytes g frame h.net;
  sectors = refl;
  rules = record { net = received-rules g.ram g.net frame h.net; disk = h.disk };
}

pub boot-kept : (pages sectors : ℕ) (image : List ℕ) → HasDeviceRecords (boot_guest pages sectors image)
unfolding boot_guest
boot-kept pages sectors image =
    let queue : IsQueueRecord boot_queue = record { size = refl; ready_has_size = λ e. cc } in
    record {
      net = record { status_bits = refl; interrupt_bits = omega arith; queue_0 = queue; queue_1 = queue; absent = tt };
      disk = record { status_bits = refl; interrupt_bits = omega arith; queue_0 = queue; queue_1 = queue; absent = refl };
    }

-- ---- the number of the disk's bytes, and so of its sectors, whatever the records

disk_served_bytes : (ram : List ℕ) (disk : DeviceState) (c : Contents) → length (disk_served ram disk c).kept.bytes ≡ length c.bytes
unfolding disk_served
disk_served_bytes ram disk c = disk_size ram disk c (Block (capacity c))

disk_acted_bytes : (ram : List ℕ) (disk : DeviceState) (c : Contents) (a : Action) →
    length (disk_acted ram disk c a).kept.bytes ≡ length c.bytes
disk_acted_bytes ram disk c asks.None = refl
disk_acted_bytes ram disk c (asks.Notify queue) = either (queue == 0)
  where
    either : (b : Bool) → length (if b then disk_served ram disk c else standing ram disk c).kept.bytes ≡ length c.bytes
    either true = disk_served_bytes ram disk c
    either false = refl
disk_acted_bytes ram disk c asks.Reset = refl

timer_bytes : (g : Guest) (value : ℕ) (r : TimerRegister) → length (timer_stored g value r).sectors ≡ length g.sectors
timer_bytes g value Msip = refl
timer_bytes g value Mtimecmp = refl
timer_bytes g value Mtime = refl

pub next-disk_bytes : (g : Guest) → length (next g).sectors ≡ length g.sectors
unfolding next
next-disk_bytes g =
    step_case (λ e. length e.guest.sectors ≡ length g.sectors) g (record {
      trap = λ cause value. refl;
      goes_on = λ regs pc aligned. refl;
      loads = λ regs. refl;
      stores = λ offset n value inside. refl;
      sets_timer = λ register value. timer_bytes g value register;
      serves = λ offset n value after is. refl;
      serves_disk = λ offset n value after is. disk_acted_bytes g.ram after.state (contents_of g.sectors []) after.action;
      writes_csr = λ regs number value. refl;
      returns = refl;
    })

pub next-sectors : (g : Guest) → sector_count (next g).sectors ≡ sector_count g.sectors
next-sectors g = ap (λ (n : ℕ). n / 512) (next-disk_bytes g)

whole : (n : ℕ) → 512 * n / 512 ≡ n
whole n = omega arith

pub boot-sectors : (pages sectors : ℕ) (image : List ℕ) → sector_count (boot_guest pages sectors image).sectors ≡ sectors
unfolding boot_guest
boot-sectors pages sectors image = ap (λ (n : ℕ). n / 512) (length-replicate (512 * sectors) 0) ∙ whole sectors
