-- The pair's record, which holds no machine, page or byte; what an event looks at beside it; and tables of refusals, in which the first
-- row whose test holds decides.
use Rattle.std.specs.Prelude.{◌≡◌, ℕ, ◌+◌, ◌&&◌, nat_le, nat_lt, Bool, if◌then◌else◌, List, [], ◌∷◌, length, Option, None, Some}
use Rattle.frame_ports.specs.Limits.{number_limit}
use Rattle.output_gate.specs.Epochs.{Epoch}
use Rattle.failover.specs.declared.mode.Mode.{Mode}
use Rattle.pair_history.specs.Entries.{Frame}
use Rattle.pair_record.specs.declared.event.Refusal.{Refusal}
use Rattle.pair_record.specs.declared.event.Refusal.TheVariants.{Exhausted, NoMemory}
use Rattle.pair_record.specs.declared.event.Reply.{Reply}
use Rattle.pair_record.specs.declared.event.Reply.TheVariants as replies
use Rattle.pair_record.specs.declared.window.Window.{Window}
use Rattle.pair_history.specs.Journal.{Journal, all_entries}
use Rattle.pair_record.specs.Limits.{last_frame}

pub record Record : Type 0 where
  pub mode : Mode
  pub generation : ℕ
  pub journal : Journal
  -- the numbers of the next checkpoint to be cut, to be committed, to be acknowledged
  pub window : Window
  -- each pending checkpoint's number with the frames that the guest sent along its epoch
  pub pending : List Epoch
  -- the number that the next frame of the guest gets where it comes to the gate
  pub next_frame : ℕ

-- What an event looks at beside the record.
pub record Sight : Type 0 where
  -- the frames that the guest sent along the epoch that runs; those of its next step, and its step count after that step
  pub outbox : List Frame
  pub sent : List Frame
  pub steps : ℕ
  -- the step count of the guest that a backup goes on with
  pub resumed : ℕ
  -- the clients' boxes, and what is on its way to them
  pub boxes : List (List Frame)
  pub owed : List (ℕ × Frame)
  -- the frames of each client that wait for the guest, and the number that the next one gets
  pub inbox : ℕ → List (ℕ × Frame)
  pub number : ℕ

-- An answer, and the record after it.
abbrev pub Outcome : Type 0
Outcome = Reply × Record

-- The rows of a table of refusals, in order: a test, and the refusal where it holds.
abbrev pub Row : Type 0
Row = Bool × Refusal

-- the first refusal whose test holds
abbrev pub first_refusal : List Row → Option Refusal
first_refusal [] = None
first_refusal (row ∷ rows) = if row.0 then Some row.1 else first_refusal rows

-- a refusal changes nothing
abbrev pub refused : Record → Refusal → Outcome
refused r why = (replies.Refused why, r)

-- the refusal, or else what is done
abbrev pub or_else : Option Refusal → (Refusal → Outcome) → Outcome → Outcome
or_else None refuse done = done
or_else (Some why) refuse done = refuse why

-- the refusal, or else the first row that holds
abbrev pub first_of : Option Refusal → List Row → Option Refusal
first_of None rows = first_refusal rows
first_of (Some why) rows = Some why

-- an event that these rows refuse, and that else is done so
abbrev pub unless : Record → List Row → Outcome → Outcome
unless r rows done = or_else (first_refusal rows) (refused r) done

-- An event of these rows may be refused so: by the first that holds. Memory is wanted only where none does, and where `wants` holds.
abbrev pub Refuses : List Row → Type 0 → Refusal → Type 0
Refuses rows wants (NoMemory w) = (first_refusal rows ≡ None) × wants
Refuses rows wants why = first_refusal rows ≡ Some why

-- that many more entries would be too many for the history
abbrev pub exhausts : Record → ℕ → Bool
exhausts r more = nat_le number_limit (length (all_entries r.journal) + more)

-- What refuses one entry more: the history has no number for it, or the word that counts the caller's steps is full. A caller that has no
-- such word says that it isn't.
abbrev pub entry_refusals : Bool → Record → List Row
entry_refusals word_full r = (exhausts r 1, Exhausted) ∷ (word_full, Exhausted) ∷ []

-- too few numbers are left for the frames that the guest may send
abbrev pub frames_run_out : Record → Bool
frames_run_out r = nat_lt last_frame r.next_frame

-- whether that many clients have one of this number
abbrev pub is_among : ℕ → ℕ → Bool
is_among c count = nat_le 1 c && nat_le c count
