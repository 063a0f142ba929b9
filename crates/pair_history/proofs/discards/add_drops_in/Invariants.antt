use Rattle.std.proofs.Common.{◌≡◌, ◌+◌, ◌≤◌, ◌++◌, length, drop}
use Rattle.std.specs.Prelude.{map}
use Rattle.pair_history.specs.Entries.{DropIn}
use Rattle.pair_history.proofs.discards.add_drops_in.Given as goal

abbrev pub invariant-loop-number : goal.invariant-loop-number
invariant-loop-number l = record {
  entries : l.history.entries ++ map DropIn (drop l.number-index l.numbers) ≡ l.initial.history.entries ++ map DropIn l.numbers;
  size : length l.history.entries ≡ length l.initial.history.entries + l.number-index;
  room : l.initial.history.room ≤ l.history.room + l.number-index;
}
