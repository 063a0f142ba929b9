use Rattle.std.proofs.Common.{◌≡◌, ◌-◌, ◌≤◌, ◌++◌}
use Rattle.std.specs.Prelude.{map, Some}
use Rattle.pair_core.specs.Lines.{packets_from}
use Rattle.pair_core.proofs.lines.send_all.Given as goal

abbrev pub invariant-loop-number : goal.invariant-loop-number
invariant-loop-number l = record {
  first : l.first ≤ l.number;
  end : l.number ≤ l.end;
  so_far : l.line.packets ++ map Some (packets_from l.generation l.number (l.end - l.number))
      ≡ l.initial.line.packets ++ map Some (packets_from l.generation l.first (l.end - l.first));
  room : l.end - l.number ≤ l.line.room;
}
