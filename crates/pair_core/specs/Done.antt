-- What a call that does one event promises.
use Rattle.std.specs.Prelude.{◌≡◌, IfOk, OnErr, Result, Option}
use Rattle.memory_wanted.specs.declared.MemoryWanted.{MemoryWanted}
use Rattle.pair_record.specs.declared.event.Event.{Event}
use Rattle.pair_record.specs.declared.event.Packet.{Packet}
use Rattle.pair_record.specs.declared.event.Reply.{Reply}
use Rattle.pair_record.specs.Protocol.{Outcome, allowed}
use Rattle.pair_core.specs.{Answering.MayWantMemory, Leaves.Leaves, Pair.Pair}

-- Done, it answered and left what is foreseen, and beside it what the event leaves. Where memory was wanted it changed nothing, and the
-- event is one that may want some.
abbrev pub Does : Outcome → Event → Result Reply MemoryWanted → Pair → Pair → Type 0
Does foreseen event result old new =
    IfOk result (λ reply. (reply, new.protocol.state) ≡ foreseen)
    × IfOk result (λ reply. Leaves event reply old new)
    × OnErr result (MayWantMemory old.protocol.state foreseen)
    × OnErr result (new ≡ old)

-- Of an event that its mode doesn't refuse, and that gets this packet.
abbrev pub DoesAllowed : Option Packet → Event → Result Reply MemoryWanted → Pair → Pair → Type 0
DoesAllowed packet event result old new = Does (allowed old.start old.protocol.state packet event) event result old new
