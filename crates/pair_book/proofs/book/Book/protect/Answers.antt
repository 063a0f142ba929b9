use Rattle.std.proofs.Common.{rules, ◌+◌, sym, ap, ◌∙◌}
use Rattle.pair_record.specs.Protocol.{Outcome, Record}
use Rattle.pair_book.specs.{Packets.TextsState, internal.{Committed.KeepsCommitted, Tie.{IsTied, book_state}}}
use Rattle.pair_book.proofs.FailureRows.{protect_may}
use Rattle.pair_book.proofs.{FailureTies.{is_lone, protected-tied}, CommittedTies.protected-keeps, TextLaws.no-texts}
use Rattle.pair_book.proofs.book.Book.protect.Goals as goal

pub protect-requires-clause-legal : goal.protect-requires-clause-legal
protect-requires-clause-legal g c =
    let r = c.self.inside.record in
    let rows = protect_may (book_state c.self.inside.seats r c.self.inside.texts) (search rules) in
    (protected-tied c.self.invariant.0 (c.self.inside.seats.enrolled + 1) (search (rules, c.next-new.ensures.new)) rows.0
    c.keep.ensures.record (ap (λ (o : Outcome). o.1) c.begin_protect.ensures.protocol) c.begin_protect.ensures.ports).legal

pub invariant_of-self : goal.invariant_of-self
invariant_of-self g c =
    let r = c.self.inside.record in
    let now = c.begin_protect.new.self in
    let rows = protect_may (book_state c.self.inside.seats r c.self.inside.texts) (search rules) in
    let tied = protected-tied c.self.invariant.0 (c.self.inside.seats.enrolled + 1) (search (rules, c.next-new.ensures.new)) rows.0
    c.keep.ensures.record (ap (λ (o : Outcome). o.1) c.begin_protect.ensures.protocol) c.begin_protect.ensures.ports in
    let done = ap (λ (o : Outcome). o.1) c.begin_protect.ensures.protocol in
    let here : IsTied g.P.Pair.start c.protect.new.self.steps now.protocol now.ports = search (rules, tied) in
    let keeps = protected-keeps {q = now.ports} c.self.invariant.1 0 (c.self.inside.seats.enrolled + 1) done in
    let kept : KeepsCommitted g.P.Pair.start c.protect.new.self.steps now.protocol now.ports = search (rules, keeps) in
    let lone = is_lone r.protocol.mode rows.0 in (
      here,
      kept,
      no-texts here (ap (λ (y : Record). y.journal.sealed) done ∙ (c.keep.ensures.record.alone lone.1).0)
          (ap (λ (y : Record). y.window.to_acknowledge) done ∙ sym (ap (λ (y : Record). y.window.to_cut) done))
          (ap (λ (t : TextsState). t.packets) c.clear.ensures),
    )
