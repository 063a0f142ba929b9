use Rattle.std.proofs.Common.{refl, inl}
use Rattle.script_player.specs.Boot.{boot_line}
use Rattle.node_player.proofs.RoleLemmas.{boots-once}
use Rattle.node_player.proofs.begins.boot.Goals as goal

pub returns-in_default : goal.returns-in_default
returns-in_default g c =
    (_, c.refuse.ensures, boots-once g.O.Sink.no_memory c.args.role.now (boot_line c.args.line.now) c.in_default.not-Nothing)

pub returns-in-Ok : goal.returns-in-Ok
returns-in-Ok g c = (_, c.tell.ensures, rw c.in-Nothing.is (inl (refl, (c.in-Ok.primary, c.in-Ok.ensures, refl))))
