-- What a call leaves at the book: a step, or none.
use Rattle.std.proofs.Common.{◌≡◌, ◌<◌, List, [], ◌∷◌, ◌++◌, length, sym, ap, ◌∙◌, subst, arith}
use Rattle.pair_history.specs.Entries.{Entry}
use Rattle.pair_record.specs.Record.{RecordState}
use Rattle.growing_history.specs.Steps.{What, Added, step, Begins, steps_by}
use Rattle.growing_history.specs.Views.{Member, Keeper}
use Rattle.pair_book.specs.{Books.BookState, Calls.{Makes, Shows}, Failures.{AddsAlone, MakesAlone}, Packets.TextsState}
use Rattle.pair_book.specs.internal.Tie.{book_state}

-- A MEMBER'S
module _ (old : BookState) (seats : Keeper) (r : RecordState) (texts : TextsState) (seat seat' : Member)
    (view : book_state seats r texts ≡ old) where
  -- what was told is the step
  pub made : (seats' : Keeper) (r' : RecordState) (texts' : TextsState) (told what : What) → told ≡ what
      → seats' ≡ record seats { steps = seats.steps ++ step seat.number told ∷ [] }
      → seat' ≡ record { number = seat.number; steps = seats'.steps }
      → Begins seat.steps seats.steps
      → steps_by seat.number seat'.steps ≡ steps_by seat.number seat.steps ++ step seat.number told ∷ []
      → Makes what old (book_state seats' r' texts') seat seat'
  made seats' r' texts' told what is keeper member before own =
      subst (λ (b : BookState). Makes what b (book_state seats' r' texts') seat seat') view
      (record {
        steps = ap (λ (k : Keeper). k.steps) keeper ∙ ap (λ (w : What). seats.steps ++ step seat.number w ∷ []) is;
        enrolled = ap (λ (k : Keeper). k.enrolled) keeper;
        sees = member;
        saw = before;
        own =
            sym (ap (λ (m : Member). steps_by seat.number m.steps) member)
            ∙ own
            ∙ ap (λ (w : What). steps_by seat.number seat.steps ++ step seat.number w ∷ []) is;
      })

  pub shown : seat' ≡ record { number = seat.number; steps = seats.steps } → Begins seat.steps seats.steps
      → steps_by seat.number seats.steps ≡ steps_by seat.number seat.steps → Shows old seat seat'
  shown member before own =
      subst (λ (b : BookState). Shows b seat seat') view (record { sees = member; saw = before; own = own })

-- NO MEMBER'S: one that adds entries is made where there are some
pub adds-some : (es : List Entry) (old new : BookState) → 0 < length es → MakesAlone (Added es) old new → AddsAlone es old new
adds-some [] old new some made = absurd (omega (arith, some))
adds-some (e ∷ es) old new some made = made

pub adds-none : (es : List Entry) (old new : BookState) → es ≡ [] → new.steps ≡ old.steps → new.enrolled ≡ old.enrolled
    → AddsAlone es old new
adds-none es old new none steps enrolled =
    subst (λ (l : List Entry). AddsAlone l old new) (sym none) (steps, enrolled)
