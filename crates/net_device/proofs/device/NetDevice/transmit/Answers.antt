use Rattle.std.proofs.Common.{ap, ◌∙◌}
use Rattle.virtio_mmio.specs.Transport.{Device}
use Rattle.virtio_mmio.specs.declared.states.DeviceState.{DeviceState}
use Rattle.net_device.proofs.InFront.{is_served, with_record}
use Rattle.net_device.proofs.device.NetDevice.transmit.Goals as goal

pub returns-clause-memory : goal.returns-clause-memory
returns-clause-memory g c =
    c.serve.ensures.memory
    ∙ (is_served c.args.self.now.transport.kind (g.R.GuestRam.bytes c.args.ram.now) c.args.self.now.transport.state c.args.outbox.now
    c.requires.network).memory

pub returns-clause-device : goal.returns-clause-device
returns-clause-device g c =
    ap (λ (t : Device). with_record t) (c.serve.ensures.state
    ∙ ap (λ (s : DeviceState). record { kind = c.args.self.now.transport.kind; state = s })
    (is_served c.args.self.now.transport.kind (g.R.GuestRam.bytes c.args.ram.now) c.args.self.now.transport.state c.args.outbox.now
    c.requires.network).card)

pub returns-clause-frames : goal.returns-clause-frames
returns-clause-frames g c =
    c.serve.ensures.kept
    ∙ (is_served c.args.self.now.transport.kind (g.R.GuestRam.bytes c.args.ram.now) c.args.self.now.transport.state c.args.outbox.now
    c.requires.network).frames
