-- What fails, and what follows: the primary stops or the backup does, the backup goes live, a node that is alone gets a new backup.
-- `X_done` is an event's reply, with the record after it, and the only place that spells them; `on_X` is the event, refused or done.
use Rattle.std.specs.Prelude.{ℕ, ◌+◌, ◌-◌, nat_le, Bool, List, [], ◌∷◌, ◌++◌, length, Option}
use Rattle.frame_ports.specs.Addresses.{targets_of}
use Rattle.frame_ports.specs.Lands.{put_count}
use Rattle.frame_ports.specs.Limits.{number_limit}
use Rattle.output_gate.specs.Epochs.{frames_of}
use Rattle.failover.specs.declared.change.Change.TheVariants as changes
use Rattle.failover.specs.declared.mode.Mode.TheVariants as modes
use Rattle.pair_history.specs.Entries.{Frame, Entry}
use Rattle.pair_history.specs.Landings.{landings}
use Rattle.pair_history.specs.Failures.{drops_of_taken_in}
use Rattle.pair_record.specs.declared.event.Refusal.{Refusal}
use Rattle.pair_record.specs.declared.event.Refusal.TheVariants.{Exhausted}
use Rattle.pair_record.specs.declared.event.Reply.TheVariants as replies
use Rattle.pair_record.specs.GuestActs.{seal_done}
use Rattle.pair_history.specs.Journal.{Journal, kept_entries, with_history, entered, discarded}
use Rattle.pair_record.specs.Limits.{full_checkpoint, first_frame}
use Rattle.pair_record.specs.Modes.{change_refusal}
use Rattle.pair_record.specs.Window.{none_pending, uncommitted_of}
use Rattle.pair_record.specs.Tables.{Record, Sight, Outcome, Row, first_of, unless, exhausts}

-- FAILPRIMARY

-- what refuses it: the mode, or else a word of the caller's steps that is full
abbrev pub fail_primary_refusal : Bool → Record → Option Refusal
fail_primary_refusal word_full r = first_of (change_refusal changes.FailPrimary r.mode) ((word_full, Exhausted) ∷ [])

-- the primary stops: all else stays
abbrev pub fail_primary_done : Record → Outcome
fail_primary_done r = (replies.Stopped, record r { mode = modes.Stopped })

abbrev pub on_fail_primary : Sight → Record → Outcome
on_fail_primary s r = fail_primary_done r

-- FAILBACKUP: the backup stops, and the primary goes on alone

-- what lands: what the gate holds, and then the outbox
abbrev pub all_held : List (List Frame) → List Frame → Record → List (ℕ × Frame)
all_held boxes outbox r = targets_of (length boxes) (frames_of r.pending ++ outbox)

abbrev pub fail_backup_refusals : List (List Frame) → List Frame → Record → List Row
fail_backup_refusals boxes outbox r = (exhausts r (length (all_held boxes outbox r)), Exhausted) ∷ []

-- what refuses it while the guest is in an epoch, whose frames stay with it; so does a word of the caller's steps that is full
abbrev pub fail_within_refusals : Bool → List (List Frame) → Record → List Row
fail_within_refusals word_full boxes r = fail_backup_refusals boxes [] r ++ (word_full, Exhausted) ∷ []

-- what was sealed goes to the history, and behind it this epoch, and what leaves lands; this runs on
abbrev pub landed_after : List Entry → List Entry → List (List Frame) → List (ℕ × Frame) → Journal → Journal
landed_after epoch rest boxes leaving j = with_history (entered epoch rest j) (landings boxes leaving)

-- the pending checkpoints are given up, and what was held lands, and then these frames, which the guest sent along this epoch, numbered on
abbrev pub failure_done : List Entry → List Entry → List (List Frame) → List Frame → Record → Outcome
failure_done epoch rest boxes frames r =
    let leaving = all_held boxes frames r in (
      replies.Alone r.generation (put_count boxes leaving),
      record r {
        mode = modes.Alone;
        journal = landed_after epoch rest boxes leaving r.journal;
        window = none_pending r.window.to_cut;
        pending = [];
        next_frame = r.next_frame + length frames;
      },
    )

-- all that was kept goes to the history
abbrev pub fail_backup_done : List (List Frame) → List Frame → Record → Outcome
fail_backup_done boxes outbox r = failure_done r.journal.running [] boxes outbox r

abbrev pub on_fail_backup : Sight → Record → Outcome
on_fail_backup s r = unless r (fail_backup_refusals s.boxes s.outbox r) (fail_backup_done s.boxes s.outbox r)

-- GOLIVE: the backup goes on from its image, in the next generation; what was kept is discarded, and what the clients are owed lands

-- what that adds to the history, whatever lands: the frames that were taken in are dropped, and then come these entries
abbrev pub entries_with : List Entry → Journal → List Entry
entries_with landed j = drops_of_taken_in (kept_entries j) ++ landed

-- where these are the boxes, and these frames are on their way to their clients
abbrev pub live_entries : List (List Frame) → List (ℕ × Frame) → Journal → List Entry
live_entries boxes out j = entries_with (landings boxes out) j

abbrev pub live_refusals : List Entry → Record → List Row
live_refusals landed r =
    (nat_le number_limit (r.generation + 1), Exhausted)
    ∷ (nat_le number_limit (length r.journal.history + length (entries_with landed r.journal)), Exhausted)
    ∷ []

abbrev pub go_live_refusals : List (List Frame) → List (ℕ × Frame) → Record → List Row
go_live_refusals boxes out r = live_refusals (landings boxes out) r

-- the number behind those of the committed frames: what was sent after them is rolled back, and its numbers are given anew
abbrev pub first_uncommitted : Record → ℕ
first_uncommitted r = r.next_frame - length (frames_of (uncommitted_of r.window r.pending))

abbrev pub live_done : List Entry → ℕ → Record → Outcome
live_done landed steps r = (
  replies.Live (r.generation + 1) steps,
  record r {
    mode = modes.Alone;
    generation = r.generation + 1;
    journal = with_history (discarded r.journal) (entries_with landed r.journal);
    window = none_pending r.window.to_commit;
    pending = [];
    next_frame = first_uncommitted r;
  },
)

abbrev pub go_live_done : List (List Frame) → List (ℕ × Frame) → ℕ → Record → Outcome
go_live_done boxes out steps r = live_done (landings boxes out) steps r

abbrev pub on_go_live : Sight → Record → Outcome
on_go_live s r = unless r (go_live_refusals s.boxes s.owed r) (go_live_done s.boxes s.owed s.resumed r)

-- PROTECT: a node that is alone gets a new backup, in the next generation

abbrev pub protect_refusals : Record → List Row
protect_refusals r = (nat_le number_limit (r.generation + 1), Exhausted) ∷ []

-- Nothing is pending, and its full checkpoint is the next one. Until that is sealed the guest's frames are numbered on, and land.
abbrev pub begin_done : Record → Outcome
begin_done r = (
  replies.Protecting (r.generation + 1),
  record r {
    mode = modes.Filling;
    generation = r.generation + 1;
    window = none_pending full_checkpoint;
    pending = [];
  },
)

-- Its full checkpoint, which no frame waits for, is pending: from now on what the guest does and sends is kept, and its frames are numbered
-- anew.
abbrev pub full_done : Record → Outcome
full_done r = seal_done [] r.journal.running [] (record r { next_frame = first_frame })

-- the one and then the other
abbrev pub protect_done : Record → Outcome
protect_done r = ((begin_done r).0, (full_done (begin_done r).1).1)

abbrev pub on_protect : Sight → Record → Outcome
on_protect s r = unless r (protect_refusals r) (protect_done r)
