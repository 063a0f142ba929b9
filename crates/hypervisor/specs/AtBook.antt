-- What members' calls leave of the book, where a row of its own says it (pair_book's Calls and Submitting).
use Rattle.std.specs.Prelude.{◌≡◌, ℕ, List, None}
use Rattle.pair_history.specs.Entries.{Frame}
use Rattle.pair_history.specs.HistoryState.{HistoryState}
use Rattle.pair_record.specs.declared.event.Refusal.{Refusal}
use Rattle.pair_record.specs.declared.event.Refusal.TheVariants.{Full}
use Rattle.pair_record.specs.Protocol.{delivery_refused}
use Rattle.growing_history.specs.Views.{Member}
use Rattle.pair_book.specs.Books.{BookState}
use Rattle.pair_book.specs.Calls.{Makes}
use Rattle.pair_book.specs.declared.prepared.Prepared.{Prepared}
use Rattle.pair_book.specs.Handing.{handing, HandsNext}
use Rattle.pair_book.specs.Submitting.{ended, epoch_told, submit_why, texts_ended}

-- a refused delivery leaves the book as it was, but that an entry tells of a full inbox
abbrev pub KeepsBookUnlessFull : ℕ → Frame → BookState → BookState → Refusal → Type 0
KeepsBookUnlessFull c f old new Full = (new.protocol ≡ (delivery_refused old.protocol c f Full).1) × (new.ports ≡ old.ports)
KeepsBookUnlessFull c f old new why = new ≡ old

-- The runner's epoch has ended, of so many arrivals and steps, which sent these frames: nothing refused it, the step tells of it, its text
-- is pending, and the next frames are handed out.
pub record EndsAtBook (start : HistoryState) (old new : BookState) (seat seat' : Member) (arrivals steps : ℕ) (frames : List Frame)
    (what : Prepared) (next : List (ℕ × Frame)) : Type 0 where
  pub free : submit_why start old seat.number what steps frames ≡ None
  pub step : Makes (epoch_told old arrivals steps what) old new seat seat'
  pub texts : new.texts ≡ texts_ended what old.texts
  pub hands : HandsNext (ended old arrivals steps frames) (handing new.protocol new.ports next)
