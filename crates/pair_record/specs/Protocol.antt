-- The pair protocol: what each event is answered and what it leaves, over a record that holds no machine, page or byte. By who acts: the
-- guest (GuestActs), the backup (BackupActs), clients and their lines (ClientActs), and failures (FailureActs). An event has a table of
-- refusals; else it is done. What it looks at beside the record is a `Sight`, and the history says what that is. Which packet an event
-- gets, and where packets go that an answer says were sent, whoever holds lines says.
use Rattle.std.specs.Prelude.{List, ◌++◌, Option}
use Rattle.guest_rules.specs.Step.{next, sent}
use Rattle.pair_history.specs.Entries.{Frame}
use Rattle.pair_history.specs.HistoryState.{HistoryState, at, inbox_of, sent_along}
use Rattle.pair_record.specs.declared.event.Event.{Event}
use Rattle.pair_record.specs.declared.event.Event.TheVariants.{Step, Cut, Send, BackupGet, AckGet, Admit, Deliver, Take, LoseIn, LoseOut}
use Rattle.pair_record.specs.declared.event.Event.TheVariants.{FailPrimary, FailBackup, GoLive, Protect}
use Rattle.pair_record.specs.declared.event.Packet.{Packet}
use Rattle.pair_history.specs.Journal.{joined, all_entries}
use Rattle.pair_record.specs.Modes.{mode_refusal}
pub use Rattle.pair_record.specs.Tables.{Record, Sight, Outcome, Row, first_refusal, first_of, refused, or_else, unless, Refuses, exhausts}
pub use Rattle.pair_record.specs.Tables.{entry_refusals, frames_run_out, is_among}
pub use Rattle.pair_record.specs.GuestActs.{step_room, step_refusals, step_entries, step_done, on_step, cut_refusals}
pub use Rattle.pair_record.specs.GuestActs.{seal_done, cut_done, on_cut}
pub use Rattle.pair_record.specs.BackupActs.{send_done, on_send, backup_refusals, again_done, commit_done, backup_done, backup_outcome}
pub use Rattle.pair_record.specs.BackupActs.{on_backup_get, let_go, ack_refusals, acknowledge_refusals, ack_done, ack_outcome, on_ack_get}
pub use Rattle.pair_record.specs.ClientActs.{if_there, admit_refusals, arrival_done, admit_done, admit_of, on_admit}
pub use Rattle.pair_record.specs.ClientActs.{is_bad_length, deliver_refusals, RefusesDelivery, delivery_refused, deliver_done, on_deliver}
pub use Rattle.pair_record.specs.ClientActs.{take_refusals}
pub use Rattle.pair_record.specs.ClientActs.{take_done, on_take, loss_refusals, loss_done, loss_of, loss_reply, on_loss, lost_in, lost_out}
pub use Rattle.pair_record.specs.ClientActs.{on_lose_in, on_lose_out}
pub use Rattle.pair_record.specs.FailureActs.{fail_primary_refusal, fail_primary_done, on_fail_primary, all_held, fail_backup_refusals, fail_within_refusals}
pub use Rattle.pair_record.specs.FailureActs.{fail_backup_done}
pub use Rattle.pair_record.specs.FailureActs.{on_fail_backup, live_entries, go_live_refusals, go_live_done, on_go_live, protect_refusals}
pub use Rattle.pair_record.specs.FailureActs.{landed_after, failure_done, begin_done, full_done, protect_done, on_protect}

-- WHAT THE HISTORY SAYS of what an event looks at

-- the state that clients see, and the one after all that is kept
abbrev pub shown_at : HistoryState → Record → HistoryState
shown_at start r = at start r.journal.history

abbrev pub live_at : HistoryState → Record → HistoryState
live_at start r = at start (all_entries r.journal)

-- the frames that the guest sent along the epoch that runs
abbrev pub outbox_of : HistoryState → Record → List Frame
outbox_of start r = sent_along (at start (r.journal.history ++ joined r.journal.sealed)) r.journal.running

-- so what an event looks at
abbrev pub sight : HistoryState → Record → Sight
sight start r =
    let shown = shown_at start r in
    let live = live_at start r in
    record {
      outbox = outbox_of start r;
      sent = sent live.guest;
      steps = (next live.guest).steps;
      resumed = shown.guest.steps;
      boxes = shown.boxes;
      owed = shown.out;
      inbox = λ c. inbox_of c live.waiting;
      number = shown.number;
    }

-- EACH EVENT, where its mode doesn't refuse it. Where it gets a packet, it is the one that came, if there is one.
abbrev pub answered : Sight → Record → Option Packet → Event → Outcome
answered s r got Step = on_step s r
answered s r got Cut = on_cut s r
answered s r got Send = on_send s r
answered s r got (BackupGet k) = on_backup_get s r got
answered s r got (AckGet k) = on_ack_get s r got
answered s r got (Admit c) = on_admit s r c
answered s r got (Deliver c bytes) = on_deliver s r c bytes.now
answered s r got (Take c) = on_take s r c
answered s r got (LoseIn c place) = on_lose_in s r c place
answered s r got (LoseOut c place) = on_lose_out s r c place
answered s r got FailPrimary = on_fail_primary s r
answered s r got FailBackup = on_fail_backup s r
answered s r got GoLive = on_go_live s r
answered s r got Protect = on_protect s r

abbrev pub step_outcome : HistoryState → Record → Outcome
step_outcome start r = on_step (sight start r) r

abbrev pub allowed : HistoryState → Record → Option Packet → Event → Outcome
allowed start r got event = answered (sight start r) r got event

-- and where it does
abbrev pub outcome : HistoryState → Record → Option Packet → Event → Outcome
outcome start r got event = or_else (mode_refusal r.mode event) (refused r) (allowed start r got event)
