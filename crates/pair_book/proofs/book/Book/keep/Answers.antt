use Rattle.std.proofs.Common.{List, ap, sym, ◌∙◌}
use Rattle.pair_history.specs.Entries.{Entry}
use Rattle.pair_history.specs.HistoryState.{HistoryState, at}
use Rattle.growing_history.specs.laws.Logs.{history-stands}
use Rattle.pair_book.proofs.book.Book.keep.Goals as goal

pub returns-clause-inboxes : goal.returns-clause-inboxes
returns-clause-inboxes g c =
    rw (← c.self.view_is) (λ client low high. c.self.invariant.0.waits.inboxes client low high)

pub returns-clause-boxes : goal.returns-clause-boxes
returns-clause-boxes g c =
    let start = g.P.Pair.start in
    let steps = c.self.inside.seats.steps in
    let tied = c.self.invariant.0 in
    rw (← c.self.view_is) (λ none.
    (tied.accords none).clients.boxes
    ∙ ap (λ (h : HistoryState). h.boxes) (ap (λ (es : List Entry). at start es) (tied.history none) ∙ sym (history-stands start steps)))
