-- As many numbers as iterations so far, each 0.
use Rattle.std.proofs.Common.{◌≡◌, replicate}
use Rattle.frame_ports.proofs.numbers.zeros.Given as goal

abbrev pub invariant-loop : goal.invariant-loop
invariant-loop l = l.numbers.items ≡ replicate l.counter 0
