use Rattle.std.proofs.Common.{◌∙◌, subst, sym}
use Rattle.growing_history.specs.FirstGeneration.{AreUnmarked}
use Rattle.pair_book.specs.Books.{BookState}
use Rattle.hypervisor.specs.FirstBackups.{FindFirstGeneration, HasSeen}
use Rattle.hypervisor.proofs.looking.look_beside.Goals as goal

pub returns-clause-first : goal.returns-clause-first
returns-clause-first g c =
    let start = g.P.Pair.start in
    let backup = c.args.backup.now in
    let backup' = c.look.new.self in
    let find = c.look-found.ensures in
    let is = c.if-found-ne1.false in
    subst
    (λ (b : BookState).
    HasSeen start b.steps backup backup' → AreUnmarked start b.steps
    → FindFirstGeneration start c.look-found.result c.args.clients.now.items c.look-found.new.clients.items backup backup')
    c.look.ensures.same
    (λ seen unmarked. record {
      looked = record { all = _; has = find.has; see = find.see; seen = seen };
      first = is;
      unmarked = unmarked (sym find.has.generation ∙ is);
    })
    c.look.ensures.seen c.look.ensures.unmarked
