use Rattle.std.proofs.Common.{arith}
use Rattle.std.proofs.lemmas.List.{nil_from_length}
use Rattle.pair_book.proofs.book.Book.pending.Goals as goal

pub returns-clause-sealed : goal.returns-clause-sealed
returns-clause-sealed g c = λ none.
    let r = c.self.inside.record.protocol in
    let k = c.keep.ensures.record in
    let count = c.pending.ensures in
    rw (← c.self.view_is) (nil_from_length r.journal.sealed (omega (arith, none, count, k.window.count, k.window.committed, k.window.cut, k.sealed)))
