use Rattle.std.proofs.Common.{◌≡◌, ◌+◌, ◌*◌, ◌≤◌, length, drop}
use Rattle.frame_ports.specs.Addresses.{targets_of}
use Rattle.pair_history.proofs.landings.count_landings.Given as goal

abbrev pub invariant-loop-frame : goal.invariant-loop-frame
invariant-loop-frame l = record {
  few : l.count ≤ 16 * l.frame-index;
  counted : l.count + length (targets_of (length l.ports.boxes) (drop l.frame-index l.frames))
      ≡ length (targets_of (length l.ports.boxes) l.frames);
}
