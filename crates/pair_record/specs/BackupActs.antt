-- What is sent to the backup, what it gets, and what the primary gets of it. `X_done` is an event's reply, with the record after it, and
-- the only place that spells them; `on_X` is the event, refused or done.
use Rattle.std.specs.Prelude.{ℕ, ◌-◌, ◌==◌, ◌&&◌, not, nat_lt, nat_le, Bool, if◌then◌else◌, List, [], ◌∷◌, length, Option, None, Some}
use Rattle.frame_ports.specs.Addresses.{targets_of}
use Rattle.frame_ports.specs.Lands.{put_count}
use Rattle.output_gate.specs.Epochs.{frames_to, after_number}
use Rattle.pair_history.specs.Entries.{Frame}
use Rattle.pair_history.specs.Landings.{landings}
use Rattle.pair_record.specs.declared.event.Packet.{Packet}
use Rattle.pair_record.specs.declared.event.Refusal.TheVariants.{Stale, Gap, Exhausted}
use Rattle.pair_record.specs.declared.event.Reply.TheVariants as replies
use Rattle.pair_history.specs.Journal.{with_history, committed}
use Rattle.pair_record.specs.Window.{with_commit, with_acknowledged}
use Rattle.pair_record.specs.Tables.{Record, Sight, Outcome, Row, unless, exhausts}
use Rattle.failover.specs.Modes.{mode_filled}

-- SEND

-- one packet for each pending checkpoint, rising
abbrev pub send_done : Record → Outcome
send_done r = (replies.Sent (length r.pending), r)

abbrev pub on_send : Sight → Record → Outcome
on_send s r = send_done r

-- BACKUPGET

abbrev pub backup_refusals : Record → Packet → List Row
backup_refusals r p = (not (p.generation == r.generation), Stale) ∷ (nat_lt r.window.to_commit p.number, Gap) ∷ []

-- the last committed checkpoint is acknowledged again
abbrev pub again_done : Record → Outcome
again_done r = (replies.Again r.generation (r.window.to_commit - 1), r)

-- the next checkpoint is committed and acknowledged: its epoch moves to the history. A new backup's first one makes a pair
abbrev pub commit_done : Record → Outcome
commit_done r = (
  replies.Committed r.generation r.window.to_commit,
  record r {
    mode = mode_filled r.mode;
    journal = committed r.journal;
    window = with_commit r.window;
  },
)

abbrev pub backup_done : Record → Packet → Outcome
backup_done r p = if nat_lt p.number r.window.to_commit then again_done r else commit_done r

abbrev pub backup_outcome : Record → Option Packet → Outcome
backup_outcome r None = (replies.Lost, r)
backup_outcome r (Some p) = unless r (backup_refusals r p) (backup_done r p)

abbrev pub on_backup_get : Sight → Record → Option Packet → Outcome
on_backup_get s r got = backup_outcome r got

-- ACKGET

-- the frames that leave the gate at that number, each with its clients, where these are the boxes
abbrev pub let_go : List (List Frame) → Record → ℕ → List (ℕ × Frame)
let_go boxes r n = targets_of (length boxes) (frames_to n r.pending)

abbrev pub ack_refusals : List (List Frame) → Record → Packet → List Row
ack_refusals boxes r p = (not (p.generation == r.generation), Stale) ∷ (exhausts r (length (let_go boxes r p.number)), Exhausted) ∷ []

-- A call is refused, besides, beyond the last commit, which no packet of a world's line names; and where frames leave and the word that
-- counts the caller's steps is full.
abbrev pub acknowledge_refusals : Bool → List (List Frame) → Record → Packet → List Row
acknowledge_refusals word_full boxes r p =
    let leaving = length (let_go boxes r p.number) in
    (not (p.generation == r.generation), Stale)
    ∷ (nat_le r.window.to_commit p.number, Gap)
    ∷ (exhausts r leaving, Exhausted)
    ∷ (nat_lt 0 leaving && word_full, Exhausted)
    ∷ []

-- the checkpoints up to that number are no longer pending, and their frames land
abbrev pub ack_done : List (List Frame) → Record → ℕ → Outcome
ack_done boxes r n =
    let leaving = let_go boxes r n in (
      replies.Acked r.generation n (put_count boxes leaving),
      record r {
        journal = with_history r.journal (landings boxes leaving);
        window = with_acknowledged n r.window;
        pending = after_number n r.pending;
      },
    )

abbrev pub ack_outcome : List (List Frame) → Record → Option Packet → Outcome
ack_outcome boxes r None = (replies.Lost, r)
ack_outcome boxes r (Some p) = unless r (ack_refusals boxes r p) (ack_done boxes r p.number)

abbrev pub on_ack_get : Sight → Record → Option Packet → Outcome
on_ack_get s r got = ack_outcome s.boxes r got
