-- How two nodes stand to a pair: what is known of a pair of values between its events, what of it is at which node, and that what happens
-- at the nodes is a run of the pair. The pair, and its history, exist in proofs alone.
use Rattle.std.specs.Prelude.{◌≡◌, ◌⊎◌, ℕ, ◌+◌, ◌-◌, ◌≤◌, ◌<◌, not, List, [], ◌∷◌, length, drop, Some, slice_get}
use Rattle.guest_rules.specs.declared.shapes.Shape.{Shape}
use Rattle.epoch_snapshot.specs.Checkpoints.{Change}
use Rattle.checkpoint_stream.specs.{ReadBack.ReadsBack, Readings.{begun, fed}}
use Rattle.frame_ports.specs.Limits.{number_limit}
use Rattle.frame_ports.specs.Ports.{PortsState}
use Rattle.output_gate.specs.Epochs.{frames_of}
use Rattle.pair_history.specs.Entries.{Frame}
use Rattle.pair_history.specs.HistoryState.{sent_along}
use Rattle.pair_record.specs.declared.event.Event.{Event}
use Rattle.pair_record.specs.declared.event.Packet.{Packet}
use Rattle.pair_record.specs.declared.event.Reply.{Reply}
use Rattle.pair_record.specs.Journal.{all_entries}
use Rattle.pair_record.specs.Modes.{is_alone}
use Rattle.pair_record.specs.Protocol.{let_go, live_entries, all_held}
use Rattle.pair_record.specs.Record.{IsRecord, AreNumbered, owed_to}
use Rattle.pair_record.specs.Window.{committed_count, committed_of}
use Rattle.pair_core.specs.Lines.{packet}
use Rattle.pair_core.specs.Pair.{Pair}
use Rattle.pair_core.specs.Service.{HasServed, moment}
use Rattle.pair_core.specs.Invariant.{Holds}
use Rattle.pair_nodes.specs.Sides.{Primary, Standby}
use Rattle.pair_nodes.specs.{Frames.AreOut, Names.OneNameOneText}
use Rattle.pair_nodes.specs.Networks.{Network, Output}
use Rattle.pair_nodes.specs.Runs.{Call, Begin, calls_in}
use Rattle.pair_nodes.specs.Sites.{Site}

-- what is known of a pair between events
pub record Kept (w : Pair) : Type 0 where
  pub holds : Holds w
  pub record_is : IsRecord w.protocol.state
  pub numbered : AreNumbered w.protocol.state w.ports
  pub clients : length w.ports.numbers ≡ length w.ports.boxes

-- WHAT OF A PAIR IS AT WHICH NODE

-- the primary has the machine, the gate, and these texts
abbrev pub primary_of : Pair → List (List ℕ) → Primary
primary_of w kept = record {
  live = w.nodes.live;
  shape = w.nodes.image.shape;
  generation = w.protocol.state.generation;
  backed = not (is_alone w.protocol.state.mode);
  to_cut = w.protocol.state.window.to_cut;
  pending = w.protocol.state.pending;
  texts = kept;
  next_frame = w.protocol.state.next_frame;
}

-- the standby has the image
abbrev pub standby_of : Pair → List ℕ → Standby
standby_of w came = record {
  generation = w.protocol.state.generation;
  image = w.nodes.image;
  reading = fed (begun w.nodes.image.shape 0) came;
}

-- the network is the ports, but for the numbers of the guest's frames
abbrev pub network_of : PortsState → Network
network_of p = record { next = p.next; inboxes = p.inboxes; boxes = p.boxes }

abbrev pub site_of : Pair → List (List ℕ) → List (List ℕ) → List Packet → Output → List ℕ → Site
site_of w kept texts acks out came = record {
  mode = w.protocol.state.mode;
  primary = primary_of w kept;
  standby = standby_of w came;
  texts = texts;
  acks = acks;
  came = came;
  out = out;
  network = network_of w.ports;
}

-- AND WHAT ELSE IS KNOWN of the messages

-- the text of a checkpoint of this shape, generation and number
pub record IsNumbered (shape : Shape) (generation number : ℕ) (text : List ℕ) : Type 0 where
  pub change : Change
  pub reads_back : ReadsBack change text
  pub of_version : change.version ≡ 2
  pub of_shape : change.shape ≡ shape
  pub of_generation : change.generation ≡ generation
  pub of_number : change.number ≡ number

-- the texts that the primary keeps, numbered from n on
abbrev pub AreNumberedFrom : Shape → ℕ → ℕ → List (List ℕ) → Type 0
AreNumberedFrom shape generation n [] = Unit {0}
AreNumberedFrom shape generation n (t ∷ ts) = IsNumbered shape generation n t × AreNumberedFrom shape generation (n + 1) ts

-- A text that was sent: a packet of its name was; and where it may still be committed it is the one that was sealed.
pub record WasSent (w : Pair) (text : List ℕ) : Type 0 where
  pub generation : ℕ
  pub number : ℕ
  pub is : IsNumbered w.nodes.image.shape generation number text
  pub place : ℕ
  pub sent : slice_get w.protocol.lines.forward place ≡ Some (packet generation number)
  pub next : generation ≡ w.protocol.state.generation → w.protocol.state.window.to_commit ≤ number
      → slice_get w.nodes.sealed (number - w.protocol.state.window.to_commit) ≡ Some text

-- An acknowledgement that was sent.
abbrev pub WasAcknowledged : Pair → Packet → Type 0
WasAcknowledged w p = (place : ℕ) × (slice_get w.protocol.lines.back place ≡ Some p)

-- What the guest sent along the history, and what the gate holds of it: the frames of the committed checkpoints.
abbrev pub sent_of : Pair → List Frame
sent_of w = sent_along w.start w.protocol.state.journal.history

abbrev pub held_of : Pair → List Frame
held_of w = frames_of (committed_of w.protocol.state.window w.protocol.state.pending)

-- Each text that was sent has a name of its own; and while its checkpoint is pending it is the one that the primary keeps, numbered from
-- `first` on.
pub record HaveNames (shape : Shape) (generation first : ℕ) (kept texts : List (List ℕ)) : Type 0 where
  pub held : (k number : ℕ) (t : List ℕ) → slice_get texts k ≡ Some t → IsNumbered shape generation number t → first ≤ number
      → slice_get kept (number - first) ≡ Some t
  pub one : OneNameOneText shape texts

pub record Fits (w : Pair) (kept texts : List (List ℕ)) (acks : List Packet) (out : Output) (came : List ℕ) : Type 0 where
  pub pair : Kept w
  pub count : length kept ≡ length w.protocol.state.pending
  pub sealed : w.nodes.sealed ≡ drop (committed_count w.protocol.state.window) kept
  pub numbered : AreNumberedFrom w.nodes.image.shape w.protocol.state.generation w.protocol.state.window.to_acknowledge kept
  pub sent : (k : ℕ) (t : List ℕ) → slice_get texts k ≡ Some t → WasSent w t
  pub acked : (k : ℕ) (p : Packet) → slice_get acks k ≡ Some p → WasAcknowledged w p
  pub coming : (came ≡ []) ⊎ Begin came texts
  pub frames : AreOut out (held_of w) (sent_of w)
  pub names : HaveNames w.nodes.image.shape w.protocol.state.generation w.protocol.state.window.to_acknowledge kept texts

-- Two nodes match a pair.
pub record Matches (s : Site) (w : Pair) : Type 0 where
  pub is : s ≡ site_of w s.primary.texts s.texts s.acks s.out s.came
  pub fits : Fits w s.primary.texts s.texts s.acks s.out s.came

-- WHAT HAPPENS IS A RUN OF THE PAIR, which serves its clients, adds at most so many entries, has just these calls of clients with their
-- answers, and leads to a pair that the nodes match then.
pub record IsServed (w : Pair) (more : ℕ) (calls : List Call) (t : Site) : Type 0 where
  pub events : List Event
  pub replies : List Reply
  pub after : Pair
  pub start : after.start ≡ w.start
  pub run : HasServed w.start (moment w) events replies (moment after)
  pub matches : Matches t after
  pub counts : length (all_entries after.protocol.state.journal) ≤ length (all_entries w.protocol.state.journal) + more
  pub told : calls_in events replies ≡ calls

-- the history has numbers for so many entries more
abbrev pub HasRoom : Pair → ℕ → Type 0
HasRoom w more = length (all_entries w.protocol.state.journal) + more < number_limit

-- so whatever the gate lets out, and whatever is added where the backup goes live
abbrev pub CanHear : Pair → Type 0
CanHear w = (n : ℕ) → HasRoom w (length (let_go w.ports.boxes w.protocol.state n))

abbrev pub CanGoLive : Pair → Type 0
CanGoLive w =
    length w.protocol.state.journal.history + length (live_entries w.ports.boxes (owed_to w.protocol.state w.ports) w.protocol.state.journal)
    < number_limit

abbrev pub CanGoAlone : Pair → Type 0
CanGoAlone w = HasRoom w (length (all_held w.ports.boxes w.nodes.live.outbox w.protocol.state))
