use Rattle.std.proofs.Common.{◌≡◌, ◌≤◌, ◌*◌, ◌++◌, All, drop, take, length}
use Rattle.checkpoint_stream.{specs.{HeadTable.head_table, Text.{joined, number_units}}, proofs.HeadFits.IsWord}
use Rattle.checkpoint_stream.proofs.encoding.spell_head.Given as goal

abbrev pub invariant-loop-i : goal.invariant-loop-i
invariant-loop-i l = record {
  room : l.at ≤ 8 * l.i;
  long : length l.bytes ≡ 640;
  spelled : take l.at l.bytes ++ joined (number_units (drop l.i head_table) (drop l.i l.head)) ≡ joined (number_units head_table l.head);
  width : All IsWord (take l.i l.head);
}
