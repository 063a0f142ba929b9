use Rattle.std.proofs.Common.{◌≡◌, drop}
use Rattle.pair_book.specs.Texts.{first_packet_after}
use Rattle.pair_book.proofs.texts.place_of_next.Given as goal

abbrev pub invariant-loop-place : goal.invariant-loop-place
invariant-loop-place l = first_packet_after l.given (drop l.place l.packets) ≡ first_packet_after l.given l.packets
