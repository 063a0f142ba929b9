use Rattle.std.proofs.Common.{refl, inl}
use Rattle.node_player.{specs.AtNothing.IsWaiting, proofs.RoleLemmas.waits-once}
use Rattle.node_player.proofs.begins.wait.Goals as goal

pub returns-in_default : goal.returns-in_default
returns-in_default g c =
    let shape = c.args.shape in
    let once = waits-once g.O.Sink.no_memory c.args.role.now shape.pages shape.sectors c.args.generation c.in_default.not-Nothing in
    (_, c.refuse.ensures, once)

pub returns-in-Ok : goal.returns-in-Ok
returns-in-Ok g c =
    let made : IsWaiting c.args.shape.pages c.args.shape.sectors c.args.generation c.in-Ok.standby =
    record { shape = c.args.shape; pages_are = refl; sectors_are = refl; standby_is = c.in-Ok.ensures } in
    (_, c.tell_number.ensures, rw c.in-Nothing.is (inl (refl, (c.in-Ok.standby, made, refl))))
