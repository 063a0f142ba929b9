-- What a call of a member does to the book, to its seat and to the keeper's list of steps, and the tables of refusals.
use Rattle.std.specs.Prelude.{◌≡◌, ℕ, ◌+◌, ◌-◌, ◌≤◌, nat_le, Bool, List, [], ◌∷◌, ◌++◌, ◌⊎◌, length, Option, None, Some}
use Rattle.memory_wanted.specs.Wanted.{wanted}
use Rattle.frame_ports.specs.Limits.{inbox_frames, number_limit}
use Rattle.frame_ports.specs.Ports.{inbox_of}
use Rattle.pair_history.specs.Entries.{Frame, Refused}
use Rattle.pair_history.specs.HistoryState.{HistoryState}
use Rattle.pair_record.specs.declared.event.Refusal.{Refusal}
use Rattle.pair_record.specs.declared.event.Refusal.TheVariants.{Full, BadFrame, Exhausted, NoMemory}
use Rattle.pair_record.specs.Protocol.{Row, exhausts, entry_refusals, is_bad_length, delivery_refused}
use Rattle.growing_history.specs.Steps.{What, Added, step, Begins, steps_by}
use Rattle.growing_history.specs.LogState.{line_seat, client_seat}
use Rattle.growing_history.specs.Views.{Member}
use Rattle.pair_book.specs.Books.{BookState}

-- WHOSE SEAT IT IS: client c's has the number c + 3 (growing_history's numbers of seats)

abbrev pub client_of : ℕ → ℕ
client_of number = number - line_seat

abbrev pub IsClientSeat : HistoryState → ℕ → Type 0
IsClientSeat start number = (client_seat 1 ≤ number) × (number ≤ client_seat (length start.boxes))

-- WHAT A CALL DOES

-- It makes one step, under the number of the lent seat: the list has grown by it, the seat has seen the whole list, what it had seen
-- begins what was there before the step, and its own steps are those before and this one.
pub record Makes (what : What) (old new : BookState) (seat seat' : Member) : Type 0 where
  pub steps : new.steps ≡ old.steps ++ step seat.number what ∷ []
  pub enrolled : new.enrolled ≡ old.enrolled
  pub sees : seat' ≡ record { number = seat.number; steps = new.steps }
  pub saw : Begins seat.steps old.steps
  pub own : steps_by seat.number new.steps ≡ steps_by seat.number seat.steps ++ step seat.number what ∷ []

-- It makes no step, and shows the lent seat all that were made: what the seat had seen begins that, and its own steps are those before.
pub record Shows (b : BookState) (seat seat' : Member) : Type 0 where
  pub sees : seat' ≡ record { number = seat.number; steps = b.steps }
  pub saw : Begins seat.steps b.steps
  pub own : steps_by seat.number b.steps ≡ steps_by seat.number seat.steps

-- nothing has changed, the seat included
abbrev pub IsAsBefore : BookState → BookState → Member → Member → Type 0
IsAsBefore old new seat seat' = (new ≡ old) × (seat' ≡ seat)

-- WHY ONE IS REFUSED: the first row of its table that holds; where none does, only for want of memory

abbrev pub IsWhy : Option Refusal → Refusal → Type 0
IsWhy (Some first) why = why ≡ first
IsWhy None why = why ≡ NoMemory wanted

-- so too a delivery, but that the entry which tells of a full inbox may want memory
abbrev pub IsWhyDelivery : Option Refusal → Refusal → Type 0
IsWhyDelivery (Some Full) why = (why ≡ Full) ⊎ (why ≡ NoMemory wanted)
IsWhyDelivery other why = IsWhy other why

-- the word that counts the steps stays below 2^62, as the history's length does: one step more would reach it
abbrev pub is_word_full : BookState → Bool
is_word_full b = nat_le number_limit (length b.steps + 1)

-- a step that adds one entry
abbrev pub entry_rows : BookState → List Row
entry_rows b = entry_refusals (is_word_full b) b.protocol

-- a delivery by client c. A full inbox is told by an entry, so there must be room for one; the frame's number comes last
abbrev pub deliver_rows : BookState → ℕ → List ℕ → List Row
deliver_rows b c bytes =
    (is_bad_length (length bytes), BadFrame)
    ∷ (exhausts b.protocol 1, Exhausted)
    ∷ (is_word_full b, Exhausted)
    ∷ (nat_le inbox_frames (length (inbox_of b.ports c)), Full)
    ∷ (nat_le number_limit b.ports.next, Exhausted)
    ∷ []

-- after a refused delivery of a frame by client c: a full inbox is told by an entry, and everything else is as before
abbrev pub AfterRefusedDelivery : ℕ → Frame → Refusal → BookState → BookState → Member → Member → Type 0
AfterRefusedDelivery c f Full old new seat seat' =
    Makes (Added (Refused c f ∷ [])) old new seat seat'
    × (new.protocol ≡ (delivery_refused old.protocol c f Full).1)
    × (new.ports ≡ old.ports)
AfterRefusedDelivery c f why old new seat seat' = IsAsBefore old new seat seat'
