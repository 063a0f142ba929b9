-- The lines between the nodes, as lists of what was sent on them; and the protocol's record: the pair's record with its lines.
use Rattle.std.specs.Prelude.{◌≡◌, ℕ, zero, suc, ◌+◌, ◌<◌, ◌≤◌, List, [], ◌∷◌, ◌++◌, map, slice_get, Option, None}
use Rattle.output_gate.specs.Epochs.{Epoch}
use Rattle.pair_record.specs.declared.event.Event.{Event}
use Rattle.pair_record.specs.declared.event.Event.TheVariants.{BackupGet, AckGet}
use Rattle.pair_record.specs.declared.event.Packet.{Packet}
use Rattle.pair_record.specs.declared.event.Reply.{Reply}
use Rattle.pair_record.specs.declared.event.Reply.TheVariants as replies
use Rattle.pair_record.specs.declared.window.Window.{Window}
use Rattle.pair_record.specs.Protocol.{Record}
use Rattle.pair_record.specs.Record.{start_record}

-- what was sent to the backup, and what was sent back, the first first
pub record Lines : Type 0 where
  pub forward : List Packet
  pub back : List Packet

-- the lines, and how many more packets the line back takes without memory
pub record Carried : Type 0 where
  pub lines : Lines
  pub room : ℕ

abbrev pub packet : ℕ → ℕ → Packet
packet generation number = record { generation = generation; number = number }

-- the packet of a pending checkpoint
abbrev pub packet_of : ℕ → Epoch → Packet
packet_of generation e = packet generation e.number

abbrev pub no_packets : Lines
no_packets = record { forward = []; back = [] }

abbrev pub with_forward : Lines → List Packet → Lines
with_forward l ps = record l { forward = l.forward ++ ps }

abbrev pub with_back : Lines → Packet → Lines
with_back l p = record l { back = l.back ++ p ∷ [] }

-- the packets of so many checkpoints, from this number on
abbrev pub packets_from : ℕ → ℕ → ℕ → List Packet
packets_from generation first zero = []
packets_from generation first (suc count) = packet generation first ∷ packets_from generation (first + 1) count

-- each packet's generation is at most the current one, and in the current one its number is below n
abbrev pub AreBelow : ℕ → ℕ → List Packet → Type 0
AreBelow generation n [] = Unit {0}
AreBelow generation n (p ∷ ps) = (p.generation ≤ generation) × (p.generation ≡ generation → p.number < n) × AreBelow generation n ps

-- In this generation every packet names a checkpoint that was cut, and every acknowledgement one that was committed.
pub record AreNamed (generation : ℕ) (w : Window) (l : Lines) : Type 0 where
  pub forward : AreBelow generation w.to_cut l.forward
  pub back : AreBelow generation w.to_commit l.back

-- The protocol's record.
pub record Protocol : Type 0 where
  pub state : Record
  pub lines : Lines

-- nothing happened yet, and nothing was sent
abbrev pub start_protocol : Protocol
start_protocol = record { state = start_record; lines = no_packets }

-- the packet that an event gets, if its line has one of that number
abbrev pub got : Lines → Event → Option Packet
got l (BackupGet k) = slice_get l.forward k
got l (AckGet k) = slice_get l.back k
got l other = None

-- The lines after an event that was answered so: where packets are sent, there is one more for each pending checkpoint on the line to the
-- backup; a checkpoint that is committed, or that was before, is acknowledged on the line back; and nothing else is sent.
abbrev pub lines_after : Protocol → Reply → Lines
lines_after p (replies.Sent count) = with_forward p.lines (map (packet_of p.state.generation) p.state.pending)
lines_after p (replies.Committed generation number) = with_back p.lines (packet generation number)
lines_after p (replies.Again generation number) = with_back p.lines (packet generation number)
lines_after p other = p.lines
