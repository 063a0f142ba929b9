use Rattle.std.proofs.Common.{◌<◌, length, subst}
use Rattle.checkpoint_stream.specs.Readings.{Reading}
use Rattle.checkpoint_stream.proofs.Holding.{begun-short}
use Rattle.checkpoint_stream.proofs.parts.Parts.widths.Goals as goal

pub returns-clause-begun : goal.returns-clause-begun
returns-clause-begun c =
    let p = c.self.inside in
    let inv = c.self.invariant in
    subst (λ (r : Reading). length r.partial < 1514) c.self.view_is
    (begun-short p.place p.known p.filled p.buffer p.part.items _ _ inv.3 inv.4)
