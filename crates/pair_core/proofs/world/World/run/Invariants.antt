use Rattle.std.proofs.Common.{◌≡◌, ◌≤◌, length, take, vec_len}
use Rattle.std.specs.Prelude.{vec_capacity}
use Rattle.pair_history.specs.Entries.{Begins}
use Rattle.pair_core.specs.{Pair.IsConsistent, Along.Along, Runs.Run, Drops.Drops, Replication.Leads, Service.{HasServed, moment}}
use Rattle.pair_core.proofs.world.World.run.Given as goal

abbrev pub invariant-loop-event : goal.invariant-loop-event
invariant-loop-event l = record {
  replies : Run l.initial.self.start l.initial.self.protocol (take l.event-index l.events) l.replies.items l.self.protocol;
  drops : Along (Drops l.initial.self.start) l.initial.self.protocol (take l.event-index l.events) l.replies.items l.self.protocol;
  served : HasServed l.initial.self.start (moment l.initial.self) (take l.event-index l.events) l.replies.items (moment l.self);
  leads : Leads l.initial.self (take l.event-index l.events) l.replies.items l.self;
  start : l.self.start ≡ l.initial.self.start;
  grows : Begins l.initial.self.protocol.state.journal.history l.self.protocol.state.journal.history;
  consistent : IsConsistent l.self;
  counted : vec_len l.replies ≡ l.event-index;
  room : length l.events ≤ vec_capacity l.replies;
}
