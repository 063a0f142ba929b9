use Rattle.std.proofs.Common.{ap, false, length}
use Rattle.pair_record.specs.{Protocol.{Outcome, take_done}, Record.ports_after_take}
use Rattle.pair_record.specs.laws.Tables.{entry_free}
use Rattle.pair_core.specs.internal.WorldFields.{pair_of}
use Rattle.pair_core.specs.laws.{Events.moved_to, ClientEvents.take_holds}
use Rattle.pair_core.proofs.world.World.take.Goals as goal

pub invariant_of-self : goal.invariant_of-self
invariant_of-self c =
    let w = pair_of c.self.inside in
    let client = c.args.client in
    let now = c.take.new.self in
    let range = entry_free false w.protocol.state (length w.ports.boxes) client c.in-Ok.ensures.free in
    moved_to w now.protocol (take_done w.ports.boxes w.protocol.state client).1 now.ports (ports_after_take w.ports client)
    (ap (λ (o : Outcome). o.1) c.in-Ok.ensures.done) c.in-Ok.ensures.ports (take_holds w c.self.invariant client range.0 range.1)
