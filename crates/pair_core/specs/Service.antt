-- What a run is to its clients: one guest that never fails, behind a line that may lose frames. It is told by the history, the state at
-- it, replies and guests, and by nothing else of a pair.
use Rattle.std.specs.Prelude.{◌≡◌, ◌⊎◌, ℕ, ◌<◌, Bool, true, false, All, List, [], ◌∷◌, ◌++◌, length, replicate}
use Rattle.std.specs.List.{filter}
use Rattle.pair_history.specs.Entries.{Entry, Ran, Arrive, Delivered, Refused, Took, Begins}
use Rattle.pair_history.specs.HistoryState.{HistoryState, Legal, Allows, at}
use Rattle.pair_record.specs.declared.event.Event.{Event}
use Rattle.pair_record.specs.declared.event.Event.TheVariants.{Step, Cut, BackupGet, Admit, Deliver, Take, FailBackup, GoLive, Protect}
use Rattle.pair_record.specs.declared.event.Refusal.{Refusal}
use Rattle.pair_record.specs.declared.event.Refusal.TheVariants.{Full}
use Rattle.pair_record.specs.declared.event.Reply.{Reply}
use Rattle.pair_record.specs.declared.event.Reply.TheVariants as replies
use Rattle.pair_core.specs.Along.{Along, PointAlong}
use Rattle.pair_core.specs.Calls.{Moment, ahead_of, AnswersCall}
use Rattle.pair_core.specs.Drops.{Loses}
use Rattle.pair_record.specs.Journal.{first_of, rest_of}
use Rattle.pair_core.specs.Pair.{Pair, is_of_guest}

-- a pair's: its live guest, where the primary has stopped the one that it stopped with
abbrev pub moment : Pair → Moment
moment w = record {
  history = w.protocol.state.journal.history;
  sealed = w.protocol.state.journal.sealed;
  running = w.protocol.state.journal.running;
  guest = w.nodes.live.guest;
}

-- the event is that client c delivers these bytes
abbrev pub IsDelivery : ℕ → List ℕ → Event → Type 0
IsDelivery c bytes (Deliver client frame) = (client ≡ c) × (frame.now ≡ bytes)
IsDelivery c bytes other = ⊥

-- whether an entry tells of a client's call
abbrev pub is_call : Entry → Bool
is_call (Delivered c f n) = true
is_call (Refused c f) = true
is_call (Took c frame) = true
is_call other = false

-- a frame of these bytes that client c delivered, refused for that reason: where too many wait the history tells so
abbrev pub TellsRefusal : ℕ → List ℕ → Refusal → List Entry → Type 0
TellsRefusal c bytes Full es = es ≡ Refused c (record { items = bytes }) ∷ []
TellsRefusal c bytes why es = es ≡ []

-- What the entries that an event adds tell of its reply: that of a client's call is told as it was given, and no other event adds an entry
-- that tells of a call.
abbrev pub Tells : Event → Reply → List Entry → Type 0
Tells (Deliver c bytes) (replies.Delivered n) es = es ≡ Delivered c (record { items = bytes.now }) n ∷ []
Tells (Deliver c bytes) (replies.Refused why) es = TellsRefusal c bytes.now why es
Tells (Take c) (replies.Took frame) es = es ≡ Took c frame ∷ []
Tells event reply es = All (λ e. is_call e ≡ false) es

-- a backup that goes live, answered so, goes on with the guest of the history, after so many steps
abbrev pub Resumes : Event → Reply → Moment → Type 0
Resumes GoLive (replies.Live generation steps) new = (ahead_of new ≡ []) × (new.guest.steps ≡ steps)
Resumes event reply new = Unit {0}

-- what the guest did, of some entries: its steps, and the arrivals of frames
abbrev pub guest_entries : List Entry → List Entry
guest_entries es = filter is_of_guest es

-- these are the epochs ahead of the history: the sealed ones, and the one that runs
abbrev pub AreAhead : List (List Entry) → List Entry → Moment → Type 0
AreAhead sealed running m = (m.sealed ≡ sealed) × (m.running ≡ running)

-- the guest does one thing more: in the epoch that runs, or, where a node is alone, in the history at once
abbrev pub OneMore : Entry → Moment → List Entry → Moment → Type 0
OneMore e old entered new =
    ((entered ≡ []) × AreAhead old.sealed (old.running ++ e ∷ []) new)
    ⊎ ((ahead_of old ≡ []) × (entered ≡ e ∷ []) × (ahead_of new ≡ []))

-- Which of the guest's entries an event lets into the history, and what is ahead of it then. A cut seals the epoch that runs, and the full
-- checkpoint of a new backup seals one in which nothing was done. A commit lets the oldest sealed epoch in. All enters where the backup
-- fails, and what a node that is alone does enters at once; nothing else does. Where a backup goes live, what was ahead is given up.
abbrev pub Enters : Event → Reply → Moment → List Entry → Moment → Type 0
Enters Step (replies.Steps count) old entered new = OneMore Ran old entered new
Enters (Admit c) (replies.Admitted n) old entered new = OneMore (Arrive n) old entered new
Enters Cut (replies.Cut generation number) old entered new = (entered ≡ []) × AreAhead (old.sealed ++ old.running ∷ []) [] new
Enters Protect (replies.Protecting generation) old entered new = (entered ≡ []) × AreAhead (old.sealed ++ [] ∷ []) old.running new
Enters (BackupGet k) (replies.Committed generation number) old entered new =
    (entered ≡ first_of old.sealed) × AreAhead (rest_of old.sealed) old.running new
Enters FailBackup (replies.Alone generation landed) old entered new = (entered ≡ ahead_of old) × AreAhead [] [] new
Enters GoLive (replies.Live generation steps) old entered new = (entered ≡ []) × AreAhead [] [] new
Enters event reply old entered new = (entered ≡ []) × AreAhead old.sealed old.running new

-- One event, answered so, leads from a moment to the next.
pub record Serves (start : HistoryState) (old : Moment) (event : Event) (reply : Reply) (new : Moment) : Type 0 where
  pub added : List Entry
  -- the history only grows, so that what was released stays
  pub grows : new.history ≡ old.history ++ added
  -- it is one of a guest that never fails, and goes on by what that guest does
  pub legal : Legal start (new.history ++ ahead_of new)
  pub moves : All (λ e. is_of_guest e ≡ true) (ahead_of new)
  -- what the guest did enters it when it is committed, and no other entries of the guest do
  pub enters : Enters event reply old (guest_entries added) new
  -- the guest is the one of both, memory, disk and devices; a resumed guest is the history's
  pub guest : new.guest ≡ (at start (new.history ++ ahead_of new)).guest
  pub resumes : Resumes event reply new
  -- a client's call is answered in one of its own ways, and told as it was answered
  pub answered : AnswersCall start old event reply
  pub tells : Tells event reply added
  -- and what they drop, the event may drop
  pub loses : Loses start old.history (ahead_of old) event reply added

-- These events, one after another, answered so, lead from the moment old to new.
abbrev pub HasServed : HistoryState → Moment → List Event → List Reply → Moment → Type 0
HasServed start old events replies new = Along (Serves start) old events replies new

-- What an event adds to the history: of what the guest did, that which it lets in, and nothing else of the guest.
pub record LetsIn (old : Moment) (event : Event) (reply : Reply) (new : Moment) : Type 0 where
  pub added : List Entry
  pub grows : new.history ≡ old.history ++ added
  pub enters : Enters event reply old (guest_entries added) new

-- the same of a run, event by event
abbrev pub HasEntered : Moment → List Event → List Reply → Moment → Type 0
HasEntered old events replies new = Along LetsIn old events replies new

-- the point of a run at which event k happened, answered so
abbrev pub Point : HistoryState → Moment → List Event → List Reply → Moment → ℕ → Event → Reply → Type 0
Point start old events replies new k event reply = PointAlong (Serves start) old events replies new k event reply

-- The call between two moments is told by this entry, right there in the history, in a state that allows it; and the history of the end
-- still begins so.
pub record IsTold (start : HistoryState) (before done end : Moment) (e : Entry) : Type 0 where
  pub told : done.history ≡ before.history ++ e ∷ []
  pub allowed : Allows (at start before.history) e
  pub stays : Begins done.history end.history

-- The guest that goes live between these moments is the history's, whole, after so many steps; and the history of the end still begins
-- so.
pub record IsResumed (start : HistoryState) (done end : Moment) (count : ℕ) : Type 0 where
  pub guest : done.guest ≡ (at start done.history).guest
  pub steps : done.guest.steps ≡ count
  pub stays : Begins done.history end.history

-- the reply of a step that was made
abbrev pub is_step : Reply → Bool
is_step (replies.Steps count) = true
is_step other = false

-- So many steps were wanted, that many were made, and the answer to all is this: all were made, and it is the guest's step count; or the
-- step after these was refused so.
abbrev pub EndsSteps : HistoryState → ℕ → ℕ → Moment → Reply → Moment → Type 0
EndsSteps start wanted made mid (replies.Steps count) new = (made ≡ wanted) × (new ≡ mid) × (new.guest.steps ≡ count)
EndsSteps start wanted made mid (replies.Refused why) new = (made < wanted) × Serves start mid Step (replies.Refused why) new
EndsSteps start wanted made mid other new = ⊥

-- So many steps in one call, answered so, are as many events, one after another, up to the first that is refused.
pub record ServesSteps (start : HistoryState) (old : Moment) (wanted : ℕ) (reply : Reply) (new : Moment) : Type 0 where
  pub made : List Reply
  pub are_steps : All (λ r. is_step r ≡ true) made
  pub mid : Moment
  pub run : HasServed start old (replicate (length made) Step) made mid
  pub ends : EndsSteps start wanted (length made) mid reply new
