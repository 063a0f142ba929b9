use Rattle.std.proofs.Common.{◌≡◌, ◌/◌, [], List, ℕ, ap, ◌∙◌, sym, subst}
use Rattle.virtio_mmio.specs.{declared.kinds.DeviceKind.{DeviceKind, TheVariants.Block}, States.IsDeviceRecord, Transport.Device}
use Rattle.virtio_mmio.specs.ServingLoop.{Served, standing, served}
use Rattle.block_device.specs.{Contents.{Contents, capacity}, Disk.{DiskState, disk_served}, Request.request_act}
use Rattle.block_device.proofs.{ListApart.{memory_apart, state_apart, bytes_apart}, Serving.disk_size}
use Rattle.block_device.proofs.disk.Disk.serve.Goals as goal

-- the disk has as many sectors as before
same_size : (g : _) (c : goal.After-sectors-sectors g) → capacity c.serve.new.handler ≡ capacity c.self.inside.storage
same_size g c =
    ap capacity c.serve.ensures.kept
    ∙ ap (λ n. n / 512) (disk_size (g.R.GuestRam.bytes c.args.ram.now) c.self.inside.transport.state c.self.inside.storage
    c.self.inside.transport.kind)

same_kind : (g : _) (c : goal.After-sectors-sectors g) → c.serve.new.self.kind ≡ Block (capacity c.serve.new.handler)
same_kind g c = ap (λ (d : Device). d.kind) c.serve.ensures.state ∙ (c.self.invariant ∙ ap Block (sym (same_size g c)))

pub invariant_of-self : goal.invariant_of-self
invariant_of-self g c = same_kind g c

pub returns-clause-sectors : goal.returns-clause-sectors
returns-clause-sectors g c = same_size g c ∙ ap (λ (d : DiskState). capacity d.contents) c.self.view_is

pub returns-clause-rules : goal.returns-clause-rules
returns-clause-rules g c = subst (λ (k : DeviceKind). IsDeviceRecord k c.serve.new.self.state) (same_kind g c) c.state-state.ensures.rules

pub returns-clause-disk : goal.returns-clause-disk
returns-clause-disk g c = c.sectors-sectors.ensures.disk

-- what is left is what the disk's serving gives by its definition
abbrev left : (g : _) (c : goal.After-sectors-sectors g) → Served Contents
left g c = disk_served (g.R.GuestRam.bytes c.args.ram.now) c.args.self.now.state c.args.self.now.contents

is_left : (g : _) (c : goal.After-sectors-sectors g) →
    served c.self.inside.transport.kind 0 request_act
    (standing (g.R.GuestRam.bytes c.args.ram.now) c.self.inside.transport.state c.self.inside.storage) ≡ left g c
unfolding disk_served
is_left g c =
    let ram : List ℕ = g.R.GuestRam.bytes c.args.ram.now in
    ap (λ (k : DeviceKind). served k 0 request_act (standing ram c.self.inside.transport.state c.self.inside.storage)) c.self.invariant
    ∙ ap (λ (d : DiskState). disk_served ram d.state d.contents) c.self.view_is

pub returns-clause-apart_memory : goal.returns-clause-apart_memory
returns-clause-apart_memory g c =
    c.serve.ensures.memory ∙ (ap (λ (s : Served Contents). s.ram) (is_left g c)
    ∙ memory_apart (g.R.GuestRam.bytes c.args.ram.now) c.args.self.now.state c.args.self.now.contents.bytes
    c.args.self.now.contents.dirty [])

pub returns-clause-apart_state : goal.returns-clause-apart_state
returns-clause-apart_state g c =
    ap (λ (d : Device). d.state) c.serve.ensures.state ∙ (ap (λ (s : Served Contents). s.state) (is_left g c)
    ∙ state_apart (g.R.GuestRam.bytes c.args.ram.now) c.args.self.now.state c.args.self.now.contents.bytes
    c.args.self.now.contents.dirty [])

pub returns-clause-apart_bytes : goal.returns-clause-apart_bytes
returns-clause-apart_bytes g c =
    ap (λ (d : Contents). d.bytes) c.serve.ensures.kept ∙ (ap (λ (s : Served Contents). s.kept.bytes) (is_left g c)
    ∙ bytes_apart (g.R.GuestRam.bytes c.args.ram.now) c.args.self.now.state c.args.self.now.contents.bytes
    c.args.self.now.contents.dirty [])
