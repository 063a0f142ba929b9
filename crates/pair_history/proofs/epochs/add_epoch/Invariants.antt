use Rattle.std.proofs.Common.{◌≡◌, ◌+◌, ◌*◌, ◌≤◌, ◌++◌, length, drop}
use Rattle.pair_history.specs.internal.Arrivals.{epoch_entries}
use Rattle.pair_history.proofs.epochs.add_epoch.Given as goal

abbrev pub invariant-loop-arrival : goal.invariant-loop-arrival
invariant-loop-arrival l = record {
  entries : l.history.entries ++ epoch_entries (drop l.arrival-index l.arrivals) l.steps
      ≡ l.initial.history.entries ++ epoch_entries l.initial.arrivals l.initial.steps;
  room : 2 * length l.arrivals + 1 ≤ l.history.room + 2 * l.arrival-index;
  used : l.initial.history.room ≤ l.history.room + 2 * l.arrival-index;
}
