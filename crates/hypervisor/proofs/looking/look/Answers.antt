use Rattle.std.proofs.Common.{sym, ◌∙◌, subst, arith}
use Rattle.pair_book.specs.Books.{BookState}
use Rattle.hypervisor.specs.Looking.{HasFound}
use Rattle.hypervisor.specs.declared.looking.Found.{Found}
use Rattle.hypervisor.proofs.LookLaws.{all-see, has-found}
use Rattle.hypervisor.proofs.looking.look.Goals as goal

pub returns-clause-has : goal.returns-clause-has
returns-clause-has g c =
    let start = g.P.Pair.start in
    let law = c.clients_have_one_guest_that_never_fails.ensures in
    let book = c.loop-place.book in
    let e = c.keep.ensures in
    let has =
    has-found start book e.legal
    (λ none. record {
      legal = law.legal start book.steps e.legal none;
      answers = law.answers start book.steps e.legal none;
      came = λ d. law.landed start book.steps d;
    })
    e.history e.generation e.next e.sealed (λ none. c.pending.ensures.sealed (c.pending.ensures.pending ∙ none)) in
    subst (λ (x : Found × BookState). HasFound start x.1.steps x.0)
    (λ i. (
      record {
        entries = sym c.entries.ensures i;
        generation = sym c.generation.ensures i;
        next = sym c.next_number.ensures i;
        pending = sym c.pending.ensures.pending i;
      },
      c.loop-place.invariant.same i,
    ))
    has

pub returns-clause-see : goal.returns-clause-see
returns-clause-see g c =
    let seen = c.loop-place.invariant.seen in
    let count = seen.count in
    all-see g.P.Pair.start _ c.args.clients.now.items c.loop-place.clients.items c.loop-place.place
    (omega (arith, count, c.loop-place-test.false, c.len-place-end.ensures)) seen

pub returns-clause-looked : goal.returns-clause-looked
returns-clause-looked g c = (_, returns-clause-has g c, returns-clause-see g c)
