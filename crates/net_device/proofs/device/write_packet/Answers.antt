use Rattle.virtqueue.specs.Parts.{writable_places}
use Rattle.net_device.specs.Receive.{header}
use Rattle.net_device.proofs.Receiving.{in_two_pieces}
use Rattle.net_device.proofs.device.write_packet.Goals as goal

pub returns-clause-value : goal.returns-clause-value
returns-clause-value g c =
    in_two_pieces (g.R.GuestRam.bytes c.args.ram.now) (g.R.GuestRam.bytes c.scatter.new.ram) (g.R.GuestRam.bytes c.scatter-2.new.ram)
    (writable_places c.args.chain.now.parts) header c.args.frame.now.items c.as_slice.result.now
    c.scatter.ensures.value c.scatter-2.ensures.value c.as_slice.ensures.value
