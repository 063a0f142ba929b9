-- What an event leaves beside its answer and the protocol's state.
use Rattle.std.specs.Prelude.{◌≡◌}
use Rattle.pair_record.specs.declared.event.Event.{Event}
use Rattle.pair_record.specs.declared.event.Reply.{Reply}
use Rattle.pair_core.specs.Lines.{lines_after}
use Rattle.pair_core.specs.Pair.{Pair, OnRefused}
use Rattle.pair_core.specs.Replication.{Replicates}

-- Where the history starts stays; what the answer says was sent is on its line; the image, and what is to come to it, are what the event
-- makes of them; and a refusal has changed nothing, but that a full inbox is told.
pub record Leaves (event : Event) (reply : Reply) (old new : Pair) : Type 0 where
  pub start : new.start ≡ old.start
  pub lines : new.protocol.lines ≡ lines_after old.protocol reply
  pub replicates : Replicates event reply old.nodes new.nodes
  pub refused : OnRefused reply old new
