use Rattle.std.proofs.Common.{◌≡◌, ◌+◌, ◌≤◌, ◌++◌, drop}
use Rattle.std.specs.Prelude.{map}
use Rattle.pair_history.specs.Journal.{joined}
use Rattle.pair_history.specs.internal.JournalFields.{epoch_of}
use Rattle.pair_history.specs.internal.Places.{places_of}
use Rattle.pair_history.proofs.epochs.add_epochs.Given as goal

abbrev pub invariant-loop-epoch : goal.invariant-loop-epoch
invariant-loop-epoch l = record {
  entries : l.history.entries ++ joined (map epoch_of (drop l.epoch-index l.epochs))
      ≡ l.initial.history.entries ++ joined (map epoch_of l.initial.epochs);
  used : l.initial.history.room + places_of (drop l.epoch-index l.epochs) ≤ l.history.room + places_of l.initial.epochs;
}
