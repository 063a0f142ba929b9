-- What contracts see of the whole pair, and how its parts stand to the history.
use Rattle.std.specs.Prelude.{◌≡◌, ℕ, ◌-◌, ◌≤◌, [], ◌++◌, length, All, Bool, true, false, Some, None}
use Rattle.epoch_snapshot.specs.Bases.{IsBase}
use Rattle.failover.specs.declared.mode.Mode.{Mode}
use Rattle.failover.specs.declared.mode.Mode.TheVariants.{Paired, Filling, Alone, Stopped}
use Rattle.frame_ports.specs.Addresses.{targets_of}
use Rattle.frame_ports.specs.Lands.{list_of}
use Rattle.frame_ports.specs.Ports.{PortsState}
use Rattle.output_gate.specs.Epochs.{frames_of}
use Rattle.pair_history.specs.Entries.{Entry, Ran, Arrive}
use Rattle.pair_history.specs.HistoryState.{HistoryState, inbox_of, at, Legal}
use Rattle.pair_history.specs.Landings.{DropsAreAskedOrFull, BoxesFit}
use Rattle.pair_record.specs.declared.event.Refusal.{Refusal}
use Rattle.pair_record.specs.declared.event.Refusal.TheVariants.{Full}
use Rattle.pair_record.specs.declared.event.Reply.{Reply}
use Rattle.pair_record.specs.declared.event.Reply.TheVariants as replies
use Rattle.pair_record.specs.Journal.{joined, first_of, kept_entries}
use Rattle.pair_record.specs.Modes.{is_alone}
use Rattle.pair_record.specs.Record.{AreNumbered}
use Rattle.pair_core.specs.Kept.{KeepsFrames, kept_targets}
use Rattle.pair_core.specs.Lines.{Protocol}
use Rattle.pair_core.specs.Nodes.{Nodes, Fills, machine_of}
use Rattle.pair_record.specs.Protocol.{outbox_of, shown_at, live_at}
use Rattle.pair_core.specs.Texts.{AreTexts}
use Rattle.pair_record.specs.Window.{IsWindow}

pub record Pair : Type 0 where
  -- the state that the history starts from
  pub start : HistoryState
  pub protocol : Protocol
  -- the clients' inboxes and boxes
  pub ports : PortsState
  -- the machines of both nodes
  pub nodes : Nodes

-- the state that clients see, and the one after all that is kept
abbrev pub shown_state : Pair → HistoryState
shown_state w = shown_at w.start w.protocol.state

abbrev pub live_state : Pair → HistoryState
live_state w = live_at w.start w.protocol.state

-- the state at the last cut, or at the start
abbrev pub cut_state : Pair → HistoryState
cut_state w = at w.start (w.protocol.state.journal.history ++ joined w.protocol.state.journal.sealed)

-- The image is the guest of the history, memory, disk and devices, and stands at the last checkpoint that was committed.
pub record ImageFollows (w : Pair) : Type 0 where
  pub image : w.nodes.image.guest ≡ (shown_state w).guest
  pub stands_at : w.nodes.image.stands_at
      ≡ Some (record { generation = w.protocol.state.generation; number = w.protocol.state.window.to_commit - 1 })

-- A new backup's image is empty, until it takes in the full checkpoint, which makes the guest of its epoch's end.
abbrev pub ImageFills : Pair → Type 0
ImageFills w = Fills (at (shown_state w) (first_of w.protocol.state.journal.sealed)).guest w.nodes

-- What holds besides where there is a backup.
pub record HasBackup (w : Pair) : Type 0 where
  -- the live machine was last settled at the guest of the last cut
  pub base : IsBase (machine_of w.nodes.live) (cut_state w).guest
  -- nothing is staged
  pub staged : w.nodes.image.staged ≡ None
  -- each sealed text reads back as the checkpoint of its number, of version 2, which makes the guest of its epoch's end of the one of the
  -- epoch before, and whose frames are those that the guest sent along its epoch
  pub sealed : AreTexts w.nodes.image.shape w.protocol.state.generation w.protocol.state.window.to_commit
      (shown_state w) w.protocol.state.journal.sealed w.nodes.sealed

-- What holds where a node is alone: nothing is kept, pending, held or in the outbox.
pub record RunsAlone (w : Pair) : Type 0 where
  pub kept : kept_entries w.protocol.state.journal ≡ []
  pub pending : w.protocol.state.pending ≡ []
  pub outbox : w.nodes.live.outbox ≡ []

-- What holds in each mode. The backup of a pair could go on from its image, and it still could where the primary has stopped.
abbrev pub InMode : Mode → Pair → Type 0
InMode Paired w = HasBackup w × ImageFollows w
InMode Filling w = HasBackup w × ImageFills w
InMode Alone w = RunsAlone w
InMode Stopped w = HasBackup w × ImageFollows w

-- whether the guest did it: a step, or a frame's arrival
abbrev pub is_of_guest : Entry → Bool
is_of_guest Ran = true
is_of_guest (Arrive n) = true
is_of_guest other = false

-- What holds between events.
pub record IsConsistent (w : Pair) : Type 0 where
  -- the history is one of a guest that never fails, and dropped a frame for a client only by a loss that was asked for, out of its box,
  -- or at a full box; what is kept goes on from it
  pub legal : Legal w.start w.protocol.state.journal.history
  pub drops : DropsAreAskedOrFull w.start w.protocol.state.journal.history
  pub goes_on : Legal (shown_state w) (kept_entries w.protocol.state.journal)
  pub kept : All (λ e. is_of_guest e ≡ true) (kept_entries w.protocol.state.journal)
  -- what is pending are the checkpoints from the next to be acknowledged to the last cut
  pub window : IsWindow w.protocol.state.window w.protocol.state.pending
  -- the gate's frames have consecutive numbers up to the last one given, and no frame with the number of one that it holds, or a later
  -- one, has come for a client
  pub numbered : AreNumbered w.protocol.state w.ports
  -- while there is a backup, its image keeps what the gate holds of committed checkpoints under the same numbers, and before it frames that
  -- have come for each of their clients
  pub backed_up : is_alone w.protocol.state.mode ≡ false → KeepsFrames w.protocol.state w.ports w.nodes.image
  -- so what is on its way to them, as the history says it, is what the image keeps that has not come for its clients: where the primary has
  -- stopped, too
  pub on_its_way : is_alone w.protocol.state.mode ≡ false → (shown_state w).out ≡ kept_targets w.ports w.nodes.image
  -- the live machine is the guest of the history followed by what is kept
  pub live : w.nodes.live.guest ≡ (live_state w).guest
  -- there is a backup, unless a node is alone
  pub mode : InMode w.protocol.state.mode w
  -- the outbox is all that the guest sent along the epoch that runs, also what goes nowhere
  pub outbox : w.nodes.live.outbox ≡ outbox_of w.start w.protocol.state
  -- each client's inbox is what waits of it after all that is kept, and numbers go on from the history's
  pub number : w.ports.next ≡ (shown_state w).number
  pub clients : length w.ports.inboxes ≡ length w.ports.boxes
  pub inboxes : (c : ℕ) → 1 ≤ c → c ≤ length w.ports.boxes → list_of w.ports.inboxes c ≡ inbox_of c (live_state w).waiting
  -- the boxes are the history's, and none holds more than it has room for
  pub boxes : w.ports.boxes ≡ (shown_state w).boxes
  pub fit : BoxesFit w.ports.boxes
  -- what the gate holds, with the outbox, is what is still on its way to each client
  pub owed : targets_of (length w.ports.boxes) (frames_of w.protocol.state.pending ++ w.nodes.live.outbox) ≡ (live_state w).out

-- What a refusal leaves: all as it was. That of a full inbox is recorded, and that is all.
abbrev pub AfterRefusal : Refusal → Pair → Pair → Type 0
AfterRefusal Full old new = new ≡ record old { protocol = new.protocol }
AfterRefusal _ old new = new ≡ old

-- The same of a reply, if it is a refusal. A packet that isn't there, and a frame that isn't there, change nothing either.
abbrev pub OnRefused : Reply → Pair → Pair → Type 0
OnRefused (replies.Refused why) old new = AfterRefusal why old new
OnRefused replies.Lost old new = new ≡ old
OnRefused replies.Empty old new = new ≡ old
OnRefused _ old new = Unit {0}
