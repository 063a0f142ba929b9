use Rattle.std.proofs.Common.{◌≡◌, ◌+◌, ◌-◌, ◌≤◌, length}
use Rattle.virtqueue.specs.Areas.{AreasFit, IsSized}
use Rattle.virtio_mmio.specs.States.{queue_at}
use Rattle.virtio_mmio.specs.ServingLoop.{chains_served, standing}
use Rattle.virtio_mmio.proofs.transport.Transport.serve_chains.Given as goal

abbrev pub invariant-loop-done : goal.invariant-loop-done
invariant-loop-done g l =
    let bytes = g.R.GuestRam.bytes in
    let act = g.H.ChainHandler.act in
    record {
      kind : l.self.kind ≡ l.fn.self.kind;
      areas : AreasFit (queue_at l.self.state l.number) (length (bytes l.ram));
      sized : IsSized (queue_at l.self.state l.number);
      size : length (bytes l.ram) ≡ length (bytes l.fn.ram);
      fixed : g.R.GuestRam.fixed l.ram ≡ g.R.GuestRam.fixed l.fn.ram;
      room : g.H.ChainHandler.room l.fn.handler ≤ g.H.ChainHandler.room l.handler + l._done;
      ahead : chains_served l.fn.self.kind l.number act (l.count - l._done) (standing (bytes l.ram) l.self.state l.handler)
          ≡ chains_served l.fn.self.kind l.number act l.count (standing (bytes l.fn.ram) l.fn.self.state l.fn.handler);
    }
