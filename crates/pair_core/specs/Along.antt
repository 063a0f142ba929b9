-- Runs: events, one after another, each answered so.
use Rattle.std.specs.Prelude.{◌≡◌, ℕ, suc, List, [], ◌∷◌, take, drop}
use Rattle.pair_record.specs.declared.event.Event.{Event}
use Rattle.pair_record.specs.declared.event.Reply.{Reply}

-- Of states of any kind, where this is what one event, answered so, makes of one.
module _ {S : Type 0} (Makes : S → Event → Reply → S → Type 0) where
  -- These events, one after another, answered so, lead from the state old to new.
  abbrev pub Along : S → List Event → List Reply → S → Type 0
  Along old [] [] new = new ≡ old
  Along old (event ∷ events) (reply ∷ replies) new = (mid : S) × Makes old event reply mid × Along mid events replies new
  Along old [] (reply ∷ replies) new = ⊥
  Along old (event ∷ events) [] new = ⊥

  -- The point of a run at which event k happened, answered so: the states before and after it, the run up to it, the event, and the run
  -- from it on.
  pub record PointAlong (old : S) (events : List Event) (answers : List Reply) (new : S) (k : ℕ) (event : Event) (reply : Reply)
      : Type 0 where
    pub before : S
    pub done : S
    pub up_to : Along old (take k events) (take k answers) before
    pub here : Makes before event reply done
    pub from : Along done (drop (suc k) events) (drop (suc k) answers) new
