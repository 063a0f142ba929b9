-- What the primary's guest does: it makes a step, and its running epoch is cut. `X_done` is an event's reply, with the record after it,
-- and the only place that spells them; `on_X` is the event, refused or done.
use Rattle.std.specs.Prelude.{ℕ, ◌+◌, ◌&&◌, nat_lt, nat_le, Bool, if◌then◌else◌, List, [], ◌∷◌, ◌++◌, length}
use Rattle.frame_ports.specs.Addresses.{targets_of}
use Rattle.frame_ports.specs.Limits.{number_limit}
use Rattle.failover.specs.declared.mode.Mode.{Mode}
use Rattle.pair_history.specs.Entries.{Frame, Entry, Ran}
use Rattle.pair_history.specs.Landings.{landings}
use Rattle.pair_record.specs.declared.event.Refusal.TheVariants.{Stopped, Behind, CutNeeded, Exhausted}
use Rattle.pair_record.specs.declared.event.Reply.TheVariants as replies
use Rattle.pair_record.specs.Limits.{most_pending, stepping_frames, lone_step_entries}
use Rattle.pair_history.specs.Journal.{with_moves, sealed_as}
use Rattle.pair_record.specs.Modes.{is_stopped, is_alone}
use Rattle.pair_record.specs.Window.{with_cut}
use Rattle.pair_record.specs.Tables.{Record, Sight, Outcome, Row, unless, exhausts, frames_run_out}

-- STEP

-- how many entries a step counts as, whatever it sends: where a node is alone its 64 frames may land for 16 clients each
abbrev pub step_room : Mode → ℕ
step_room mode = if is_alone mode then lone_step_entries else 1

abbrev pub step_refusals : List Frame → Record → List Row
step_refusals outbox r =
    (is_stopped r.mode, Stopped)
    ∷ (nat_lt stepping_frames (length outbox), CutNeeded)
    ∷ (exhausts r (step_room r.mode), Exhausted)
    ∷ (is_alone r.mode && frames_run_out r, Exhausted)
    ∷ []

-- The guest makes one step, its `steps`th, in which it sends these frames. Where a node is alone they land at once, numbered on.
abbrev pub step_entries : Bool → List (List Frame) → List Frame → List Entry
step_entries alone boxes sent = if alone then Ran ∷ landings boxes (targets_of (length boxes) sent) else Ran ∷ []

abbrev pub frame_after_step : Bool → List Frame → ℕ → ℕ
frame_after_step alone sent next = if alone then next + length sent else next

abbrev pub step_done : List (List Frame) → List Frame → ℕ → Record → Outcome
step_done boxes sent steps r = (
  replies.Steps steps,
  record r {
    journal = with_moves (is_alone r.mode) r.journal (step_entries (is_alone r.mode) boxes sent);
    next_frame = frame_after_step (is_alone r.mode) sent r.next_frame;
  },
)

abbrev pub on_step : Sight → Record → Outcome
on_step s r = unless r (step_refusals s.outbox r) (step_done s.boxes s.sent s.steps r)

-- CUT

abbrev pub cut_refusals : Record → List Row
cut_refusals r =
    (nat_le most_pending (length r.pending), Behind)
    ∷ (nat_le number_limit r.window.to_cut, Exhausted)
    ∷ (frames_run_out r, Exhausted)
    ∷ []

-- an epoch, along which the guest sent these frames, is sealed, and this runs on: its checkpoint is pending under the next number, and its
-- frames have the next ones
abbrev pub seal_done : List Entry → List Entry → List Frame → Record → Outcome
seal_done epoch rest frames r = (
  replies.Cut r.generation r.window.to_cut,
  record r {
    journal = sealed_as epoch rest r.journal;
    window = with_cut r.window;
    pending = r.pending ++ record { number = r.window.to_cut; frames = frames } ∷ [];
    next_frame = r.next_frame + length frames;
  },
)

-- all of the running epoch is
abbrev pub cut_done : List Frame → Record → Outcome
cut_done outbox r = seal_done r.journal.running [] outbox r

abbrev pub on_cut : Sight → Record → Outcome
on_cut s r = unless r (cut_refusals r) (cut_done s.outbox r)
