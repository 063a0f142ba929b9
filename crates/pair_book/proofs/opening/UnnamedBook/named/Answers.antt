use Rattle.std.proofs.Common.{rules, arith, ◌≡◌, [], List, length, sym, ap, subst, ◌∙◌}
use Rattle.std.proofs.lemmas.List.{length-replicate}
use Rattle.frame_ports.specs.Ports.{PortsState}
use Rattle.growing_history.specs.Steps.{Step}
use Rattle.pair_record.specs.Protocol.{Record}
use Rattle.pair_book.specs.Packets.{TextsState}
use Rattle.pair_book.specs.{Opening.{IsBoot, Unnamed}, internal.{Committed.KeepsCommitted, Texts.HasTexts, Tie.IsTied}}
use Rattle.pair_book.proofs.{Start.start-tied, CommittedTies.start-keeps, TextLaws.no-texts}
use Rattle.pair_book.proofs.opening.UnnamedBook.named.Goals as goal

pub invariant_of-result : goal.invariant_of-result
invariant_of-result g c =
    let start = g.P.Pair.start in
    let r = c.self.inside.record in
    let clients = c.self.inside.clients in
    let boot : IsBoot start clients = subst (IsBoot start) (ap (λ (u : Unnamed). u.clients) (sym c.self.view_is)) c.requires.start in
    let none : c.enroll-line.new.self.steps ≡ [] = search rules in
    let three : c.enroll-line.new.self.enrolled ≡ 3 = search (rules, arith) in
    let tied : IsTied start [] r.protocol r.ports =
    start-tied start clients r.protocol r.ports boot c.self.invariant.0 c.self.invariant.1 in
    let boxes : length r.ports.boxes ≡ clients =
    ap (λ (p : PortsState). length p.boxes) c.self.invariant.1 ∙ length-replicate clients [] in (
      subst (λ (steps : List Step). IsTied start steps r.protocol r.ports) (sym none)
          tied,
      none,
      search (rules, arith),
      omega (arith, boxes, three, c.self.invariant.2),
      omega (arith, boxes, c.self.invariant.3),
      subst (λ (steps : List Step). KeepsCommitted start steps r.protocol r.ports) (sym none)
          (start-keeps start r.protocol r.ports c.self.invariant.0),
      subst (λ (steps : List Step). HasTexts start steps r.protocol c.self.inside.texts.packets) (sym none)
          (no-texts tied (ap (λ (y : Record). y.journal.sealed) c.self.invariant.0)
          (ap (λ (y : Record). y.window.to_acknowledge) c.self.invariant.0 ∙ sym (ap (λ (y : Record). y.window.to_cut) c.self.invariant.0))
          (ap (λ (t : TextsState). t.packets) c.self.invariant.4)),
    )
