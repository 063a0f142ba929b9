use Rattle.std.proofs.Common.{subst}
use Rattle.hypervisor.specs.Backups.{BackupState}
use Rattle.hypervisor.specs.FirstBackups.{SealedState, IsOfShape, IsReadOrNoMemory}
use Rattle.hypervisor.proofs.FirstBackups.{checkpoint-read}
use Rattle.hypervisor.proofs.Unmarked.{packet-first, packet-answers}
use Rattle.hypervisor.proofs.first_backup.FirstBackup.read.Goals as goal

pub invariant_of-self : goal.invariant_of-self
invariant_of-self g c =
    packet-first c.sealed_commits_make_no_mark.ensures.others g.P.Pair.start c.sealed.inside.badge c.sealed.inside.packet c.self.inside.backup
    c.learn.new.self c.read_packet.new.self c.read_packet.result c.learn.ensures.hears c.read_packet.ensures.after c.self.invariant
    c.sealed.invariant

pub returns-clause-read : goal.returns-clause-read
returns-clause-read g c =
    let answers =
    packet-answers c.sealed_commits_make_no_mark.ensures.others g.P.Pair.start c.sealed.inside.badge c.sealed.inside.packet
    c.self.inside.backup c.learn.new.self c.read_packet.new.self c.read_packet.result c.learn.ensures.hears c.read_packet.ensures.after
    c.read_packet.ensures.answers in
    subst
    (λ (x : BackupState × SealedState). IsOfShape x.0.image.shape x.1.packet → IsReadOrNoMemory c.read_packet.result)
    (λ i. (c.self.view_is i, c.sealed.view_is i))
    (λ good. checkpoint-read c.self.inside.backup.image.shape c.sealed.inside.packet good c.read_packet.result answers)
