use Rattle.std.proofs.Common.{rules, ◌≡◌, ap, sym, ◌∙◌, None}
use Rattle.pair_record.specs.Protocol.{Outcome, Record}
use Rattle.pair_book.specs.{Packets.TextsState, internal.{Committed.KeepsCommitted, Tie.{IsTied}}}
use Rattle.failover.specs.declared.change.Change.TheVariants as changes
use Rattle.pair_record.specs.Modes.{change_refusal}
use Rattle.pair_book.proofs.{FailureTies.backup-tied, CommittedTies.backup-keeps, TextLaws.no-texts}
use Rattle.pair_book.proofs.book.Book.fail_backup.Goals as goal

pub step_alone-requires-clause-legal : goal.step_alone-requires-clause-legal
step_alone-requires-clause-legal g c =
    let r = c.self.inside.record in
    let free : change_refusal changes.FailBackup r.protocol.mode ≡ None = search rules in
    (backup-tied c.self.invariant.0 free (ap (λ (o : Outcome). o.1) c.in_ok-reply.ensures.ok) c.in_ok-reply.ensures.ports).legal

pub invariant_of-self-2 : goal.invariant_of-self-2
invariant_of-self-2 g c =
    let r = c.self.inside.record in
    let now = c.fail_backup_within.new.self in
    let free : change_refusal changes.FailBackup r.protocol.mode ≡ None = search rules in
    let tied = backup-tied c.self.invariant.0 free (ap (λ (o : Outcome). o.1) c.in_ok-reply.ensures.ok) c.in_ok-reply.ensures.ports in
    let done = ap (λ (o : Outcome). o.1) c.in_ok-reply.ensures.ok in
    let here : IsTied g.P.Pair.start c.step_alone.new.self.steps now.protocol now.ports = search (rules, tied) in
    let keeps = backup-keeps {q = now.ports} c.self.invariant.1 0 c.keep.ensures.record done in
    let kept : KeepsCommitted g.P.Pair.start c.step_alone.new.self.steps now.protocol now.ports = search (rules, keeps) in (
      here,
      kept,
      no-texts here (ap (λ (y : Record). y.journal.sealed) done)
          (ap (λ (y : Record). y.window.to_acknowledge) done ∙ sym (ap (λ (y : Record). y.window.to_cut) done))
          (ap (λ (t : TextsState). t.packets) c.clear.ensures),
    )
