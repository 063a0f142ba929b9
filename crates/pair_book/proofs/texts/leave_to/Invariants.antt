use Rattle.std.proofs.Common.{◌≡◌, ◌+◌}
use Rattle.std.specs.Prelude.{vec_len, vec_capacity}
use Rattle.pair_book.specs.Texts.{above}
use Rattle.pair_book.proofs.texts.leave_to.Given as goal

abbrev pub invariant-loop : goal.invariant-loop
invariant-loop l = record {
  rest : above l.number l.packets.items ≡ above l.number l.initial.packets.items;
  len : vec_len l.packets + l.counter ≡ vec_len l.initial.packets;
  capacity : vec_capacity l.packets ≡ vec_capacity l.initial.packets;
}
