use Rattle.std.proofs.Common.{◌≡◌, ◌*◌, length, sym, ap, ◌∙◌, subst}
use Rattle.guest_rules.specs.declared.shapes.Shape.{Shape}
use Rattle.hypervisor.specs.Opening.{UnnamedState, start_with}
use Rattle.hypervisor.proofs.OpeningLaws.{boots, reached, settled-is, image-is, first-shape}
use Rattle.hypervisor.proofs.boot.UnnamedPair.named.Goals as goal

pub open_book-requires-clause-start : goal.open_book-requires-clause-start
open_book-requires-clause-start g c =
    let is = c.requires.start ∙ ap (λ (u : UnnamedState). start_with u.guest u.clients) (sym c.self.view_is) in
    boots g.P.Pair.start c.self.inside.clients c.self.inside.book c.self.inside.machine c.self.inside.image c.self.invariant is

pub open_book-requires-clause-reached : goal.open_book-requires-clause-reached
open_book-requires-clause-reached g c =
    let is = c.requires.start ∙ ap (λ (u : UnnamedState). start_with u.guest u.clients) (sym c.self.view_is) in
    reached g.P.Pair.start c.self.inside.clients c.self.inside.book c.self.inside.machine c.self.inside.image c.self.invariant is
    c.reached_states.ensures.start

pub members-requires-clause-guest : goal.members-requires-clause-guest
members-requires-clause-guest g c =
    let is = c.requires.start ∙ ap (λ (u : UnnamedState). start_with u.guest u.clients) (sym c.self.view_is) in
    settled-is g.P.Pair.start c.self.inside.clients c.self.inside.book c.self.inside.machine c.self.inside.image c.self.invariant is

pub members-requires-clause-image : goal.members-requires-clause-image
members-requires-clause-image g c =
    let is = c.requires.start ∙ ap (λ (u : UnnamedState). start_with u.guest u.clients) (sym c.self.view_is) in
    image-is g.P.Pair.start c.self.inside.clients c.self.inside.book c.self.inside.machine c.self.inside.image c.self.invariant is

pub members-requires-clause-sized : goal.members-requires-clause-sized
members-requires-clause-sized g c =
    let is = c.requires.start ∙ ap (λ (u : UnnamedState). start_with u.guest u.clients) (sym c.self.view_is) in
    let image = c.self.inside.image in
    first-shape g.P.Pair.start c.self.inside.clients c.self.inside.book c.self.inside.machine image c.self.invariant is
    (subst (λ (s : Shape). length image.guest.ram ≡ 4096 * s.pages) c.shape-shape.ensures.value c.shape-shape.ensures.pages)
    (subst (λ (s : Shape). length image.guest.sectors ≡ 512 * s.sectors) c.shape-shape.ensures.value c.shape-shape.ensures.sectors)
