-- What a call of the book makes of what the lent seat has seen.
use Rattle.std.proofs.Common.{◌≡◌, List, [], ◌∷◌, ◌++◌, sym, ap, ◌∙◌}
use Rattle.pair_history.specs.HistoryState.{HistoryState}
use Rattle.growing_history.specs.Steps.{What, Step, step, steps_by}
use Rattle.growing_history.specs.LogState.{LegalSteps}
use Rattle.growing_history.specs.Views.{Member}
use Rattle.pair_book.specs.Books.{BookState}
use Rattle.pair_book.specs.Calls.{Makes, Shows}
use Rattle.hypervisor.specs.Seats.{MakesStep, Looks}

-- the seat's step, and what it had seen and what came between are the book's before it
pub makes-at : (start : HistoryState) (what : What) (b b' : BookState) (seat seat' : Member) → Makes what b b' seat seat'
    → LegalSteps start seat'.steps
    → (made : MakesStep start seat.number what seat.steps seat'.steps) × (seat.steps ++ made.seen.0 ≡ b.steps)
makes-at start what b b' seat seat' m l =
    let x = step seat.number what in
    let sees : seat'.steps ≡ b'.steps = ap (λ (s : Member). s.steps) m.sees in (
      record {
        legal = l;
        seen = (m.saw.0, sees ∙ (m.steps ∙ ap (λ (xs : List Step). xs ++ x ∷ []) m.saw.1));
        own = ap (λ (xs : List Step). steps_by seat.number xs) sees ∙ m.own;
      },
      sym m.saw.1,
    )

pub makes-step : (start : HistoryState) (what : What) (b b' : BookState) (seat seat' : Member) → Makes what b b' seat seat'
    → LegalSteps start seat'.steps → MakesStep start seat.number what seat.steps seat'.steps
makes-step start what b b' seat seat' m l =
    (makes-at start what b b' seat seat' m l).0

pub looks-at : (start : HistoryState) (b : BookState) (seat seat' : Member) → Shows b seat seat' → LegalSteps start seat'.steps
    → Looks start seat.number seat.steps seat'.steps
looks-at start b seat seat' m l =
    let sees : seat'.steps ≡ b.steps = ap (λ (s : Member). s.steps) m.sees in
    record {
      legal = l;
      seen = (m.saw.0, sees ∙ m.saw.1);
      own = ap (λ (xs : List Step). steps_by seat.number xs) sees ∙ m.own;
    }
