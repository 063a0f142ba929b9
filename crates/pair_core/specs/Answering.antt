-- How events may be answered: as the protocol says, or for want of memory.
use Rattle.std.specs.Prelude.{◌≡◌, ℕ, ◌<◌, true, Result, Ok, Err, Option, ◌⊎◌, length}
use Rattle.memory_wanted.specs.Wanted.{wanted}
use Rattle.pair_history.specs.HistoryState.{HistoryState}
use Rattle.pair_record.specs.declared.event.Event.{Event}
use Rattle.pair_record.specs.declared.event.Refusal.{Refusal}
use Rattle.pair_record.specs.declared.event.Refusal.TheVariants.{Full, NoMemory}
use Rattle.pair_record.specs.declared.event.Reply.{Reply}
use Rattle.pair_record.specs.declared.event.Reply.TheVariants as replies
use Rattle.pair_record.specs.Modes.{is_alone}
use Rattle.pair_record.specs.Protocol.{Record, Outcome, outcome}
use Rattle.pair_record.specs.declared.event.Packet.{Packet}
use Rattle.pair_core.specs.Lines.{Protocol, got, lines_after}

-- the history has more entries than it had
abbrev pub AddsEntries : Record → Record → Type 0
AddsEntries old new = length old.journal.history < length new.journal.history

-- An event that the protocol answers so, leaving that record, may want memory first: it adds to the history, to a line, or to what is
-- sealed or kept. A step doesn't, unless a node is alone, where its frames may land; nor does an acknowledgement by which no frame
-- leaves, or an event that changes nothing.
abbrev pub MayWant : Record → Reply → Record → Type 0
MayWant old (replies.Steps count) new = is_alone old.mode ≡ true
MayWant old (replies.Sent count) new = 0 < count
MayWant old (replies.Acked generation number landed) new = AddsEntries old new
MayWant old replies.Lost new = ⊥
MayWant old replies.Empty new = ⊥
MayWant old replies.Stopped new = ⊥
MayWant old (replies.Refused why) new = why ≡ Full
MayWant old other new = Unit {0}

abbrev pub MayWantMemory : Record → Outcome → Type 0
MayWantMemory old o = MayWant old o.0 o.1

-- From the record old an event that gets this packet may be answered reply and leave new: by the protocol, or for want of memory with
-- nothing changed.
abbrev pub AnswersIn : HistoryState → Record → Option Packet → Event → Reply → Record → Type 0
AnswersIn start old packet event reply new =
    ((reply, new) ≡ outcome start old packet event)
    ⊎ (MayWantMemory old (outcome start old packet event) × (reply ≡ replies.Refused (NoMemory wanted)) × (new ≡ old))

-- The same with the lines: the packet is its line's, and what the answer says was sent is on its line.
abbrev pub AnswersEvent : HistoryState → Protocol → Event → Reply → Protocol → Type 0
AnswersEvent start old event reply new =
    AnswersIn start old.state (got old.lines event) event reply new.state × (new.lines ≡ lines_after old reply)

-- what a step answers, as a reply
abbrev pub step_reply : Result ℕ Refusal → Reply
step_reply (Ok count) = replies.Steps count
step_reply (Err why) = replies.Refused why
