-- the digits of the bytes before those that are left were put last
use Rattle.std.proofs.Common.{◌≡◌, ◌+◌, ◌*◌, ◌++◌, ℕ, List, length}
use Rattle.arrayvec.specs.ArrayVec.{array_vec_len}
use Rattle.hex.specs.Hex.{encode_lower}
use Rattle.script_player.proofs.digits.add_digits.Given as goal

abbrev pub invariant-loop-block : goal.invariant-loop-block
invariant-loop-block g l = (array_vec_len l.text + 2 * length l.rest ≡ array_vec_len l.initial.text + 2 * length l.bytes)
    × ((front : List ℕ) × (l.bytes ≡ front ++ l.rest) × (l.text.items ≡ l.initial.text.items ++ encode_lower front))

abbrev pub decreases-loop-block : goal.decreases-loop-block
decreases-loop-block g l = length l.rest
