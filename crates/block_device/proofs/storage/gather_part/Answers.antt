use Rattle.std.proofs.Common.{ℕ, arith, length-drop, drop}
use Rattle.virtqueue.specs.Parts.{readable_bytes}
use Rattle.virtqueue.specs.laws.Lengths.{length_readable}
use Rattle.block_device.proofs.Parts.{put_written}
use Rattle.block_device.proofs.storage.gather_part.Goals as goal

pub returns-clause-value : goal.returns-clause-value
returns-clause-value g c =
    let len = length_readable (g.R.GuestRam.bytes c.args.ram.now) c.args.chain.now.parts c.requires.inside in
    let new = drop c.args.at (readable_bytes (g.R.GuestRam.bytes c.args.ram.now) c.args.chain.now.parts) in
    put_written c.args.places.now c.gather.new.into new c.args.start c.args.len c.gather.ensures
    (omega (arith, len, c.requires.all, length-drop {A = ℕ})) c.requires.within

pub returns-clause-count : goal.returns-clause-count
returns-clause-count g c =
    let len = length_readable (g.R.GuestRam.bytes c.args.ram.now) c.args.chain.now.parts c.requires.inside in
    omega (arith, len, c.requires.all, length-drop {A = ℕ})
