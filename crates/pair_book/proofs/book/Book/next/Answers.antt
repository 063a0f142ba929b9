use Rattle.std.proofs.Common.{◌≡◌, Option, sym, subst}
use Rattle.std.specs.Prelude.{◌↔◌, IfSome, IsNone, []}
use Rattle.pair_book.specs.Packets.{PacketState}
use Rattle.pair_book.specs.Texts.{WasSealed}
use Rattle.pair_book.proofs.{NextTexts.{next-is-pending, next-is-none}, TextLaws.as-many}
use Rattle.pair_book.proofs.book.Book.next.Goals as goal

pub returns-clause-sealed : goal.returns-clause-sealed
returns-clause-sealed g c =
    let steps = c.self.inside.seats.steps in
    let r = c.self.inside.record.protocol in
    let t = c.self.inside.texts in
    rw (← c.self.view_is)
    (subst (λ (o : Option PacketState). IfSome o (λ p. (p.generation ≡ r.generation) × WasSealed steps p))
    (sym c.in_ok-next.ensures.done)
    (next-is-pending steps r.generation t.given r.window.to_acknowledge t.packets c.self.invariant.2.pending))

pub returns-clause-none : goal.returns-clause-none
returns-clause-none g c =
    let r = c.self.inside.record.protocol in
    let t = c.self.inside.texts in
    let count = as-many c.self.invariant.2 c.keep.ensures.record in
    rw (← c.self.view_is)
    (subst (λ (o : Option PacketState). IsNone o ↔ (r.pending ≡ [])) (sym c.in_ok-next.ensures.done)
    (next-is-none t.given t.packets r.pending count))
