-- what was written, and what stands in the piece, are the line's word and the digits of the bytes before those that are left
use Rattle.std.proofs.Common.{◌≡◌, ◌≤◌, ◌++◌, ℕ, List, codes, length}
use Rattle.arrayvec.specs.ArrayVec.{array_vec_len}
use Rattle.hex.specs.Hex.{encode_lower}
use Rattle.node_player.specs.internal.Puts.{HasPut}
use Rattle.node_player.proofs.printing.put_digits.Given as goal

abbrev pub invariant-loop-rest : goal.invariant-loop-rest
invariant-loop-rest g l = (array_vec_len l.piece ≤ 5)
    × ((front : List ℕ) × (done : List ℕ) × (l.bytes ≡ front ++ l.rest) × (done ++ l.piece.items ≡ codes "text " ++ encode_lower front)
    × HasPut (g.O.Sink.written l.initial.out) (g.O.Sink.written l.out) done)

abbrev pub decreases-loop-rest : goal.decreases-loop-rest
decreases-loop-rest g l = length l.rest
