use Rattle.std.proofs.Common.{Bool, Ok, sym, subst}
use Rattle.hypervisor.specs.Backups.{backup_state}
use Rattle.hypervisor.specs.FirstBackups.{AfterPacket}
use Rattle.hypervisor.proofs.FirstBackups.{packet-left}
use Rattle.hypervisor.proofs.backup.Backup.read_packet.Goals as goal

pub returns-clause-after : goal.returns-clause-after
returns-clause-after g c =
    let b = backup_state c.self.inside.image c.self.inside.reader c.self.inside.read c.self.inside.seat in
    let read = c.in_ok-self-inside.field-0 in
    rw (← c.self.view_is)
    (subst (λ (t : Bool). AfterPacket c.args.packet.now (Ok t) b (record b { read = read })) (sym c.is_some.ensures)
    (packet-left c.shape.result c.args.packet.now b read c.in_ok-self-inside.ensures))
