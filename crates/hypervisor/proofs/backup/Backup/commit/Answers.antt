use Rattle.std.proofs.Common.{Option, sym, subst}
use Rattle.std.specs.Prelude.{IfSome}
use Rattle.backup_image.specs.Images.{ImageState}
use Rattle.epoch_snapshot.specs.Checkpoints.{Change}
use Rattle.growing_history.specs.Views.{Member}
use Rattle.hypervisor.specs.Backups.{BackupState, IsBackup, ImageStands, backup_state}
use Rattle.hypervisor.specs.Commits.{AtBook, Commits, gives_up, image_after}
use Rattle.hypervisor.proofs.CommitLaws.{given-up, if-read, new-if-next, commits, taken-in}
use Rattle.hypervisor.proofs.backup.Backup.commit.Goals.{In-Ok}
use Rattle.hypervisor.proofs.backup.Backup.commit.Goals as goal

-- what was committed, of what was read
done : (g : _) (c : In-Ok g) → IfSome c.self.inside.read
    (λ x. AtBook c.in-Ok.field-0.is_next g.P.Pair.start x c.in-Ok.field-0.ack c.self.inside.image c.self.inside.seat c.commit-answer.new.seat)
done g c =
    let IsDone : Change → Type 0 =
    λ x. AtBook c.in-Ok.field-0.is_next g.P.Pair.start x c.in-Ok.field-0.ack c.self.inside.image c.self.inside.seat c.commit-answer.new.seat in
    subst (λ (read : Option Change). IfSome read IsDone) c.as_ref.ensures.value
    (if-read c.as_ref.result (λ x. x.now) IsDone c.in-Ok.ensures.done)

pub take_in-requires-clause-new : goal.take_in-requires-clause-new
take_in-requires-clause-new g c =
    let b = c.self.inside in
    new-if-next g.P.Pair.start b.image b.reader b.seat c.commit-answer.new.seat c.in-Ok.field-0.ack c.in-Ok.field-0.is_next b.read
    (done g (goal.at.take_in-requires-clause-new g c).In-Ok)

pub invariant_of-self : goal.invariant_of-self
invariant_of-self g c =
    let b = c.self.inside in
    let is_next = c.in-Ok.field-0.is_next in
    let seat = c.commit-answer.new.seat in
    let stands = subst (λ (read : Option Change). ImageStands g.P.Pair.start seat (image_after is_next b.image read)) c.as_ref.ensures.value
    c.in-Ok.ensures.stands in
    subst (λ (x : ImageState × Option Change). IsBackup g.P.Pair.start (backup_state x.0 b.reader x.1 seat))
    (λ i. (sym c.take_in.ensures.image i, sym c.take_in.ensures.read i))
    (taken-in g.P.Pair.start b.image b.reader b.seat seat is_next b.read c.self.invariant stands)

pub invariant_of-self-in-Err : goal.invariant_of-self-in-Err
invariant_of-self-in-Err g c =
    let b = c.self.inside in
    subst (λ (x : Option Change × Member). IsBackup g.P.Pair.start (backup_state b.image b.reader x.0 x.1))
    (λ i. (sym c.give_up.ensures i, sym c.in-Err.ensures.refused i))
    (given-up g.P.Pair.start b.image b.reader b.seat (gives_up c.in-Err.why) b.read c.self.invariant)

pub returns-in-Ok-clause-done : goal.returns-in-Ok-clause-done
returns-in-Ok-clause-done g c =
    let b = c.self.inside in
    let ack = c.in-Ok.field-0.ack in
    let seat = c.commit-answer.new.seat in
    subst (λ (x : BackupState × BackupState). IfSome x.0.read (λ y. Commits g.P.Pair.start y ack x.0 x.1))
    (λ i. (c.self.view_is i, backup_state (sym c.take_in.ensures.image i) b.reader (sym c.take_in.ensures.read i) seat))
    (commits g.P.Pair.start b.image b.reader b.seat seat ack c.in-Ok.field-0.is_next b.read
    (done g (goal.at.returns-in-Ok-clause-done g c).In-Ok))
