-- the bytes that were put write the digits before those that are left
use Rattle.std.proofs.Common.{◌≡◌, ◌≤◌, ◌+◌, ◌*◌, ◌%◌, ◌++◌, length}
use Rattle.std.specs.Vec.{vec_len, vec_capacity}
use Rattle.hex.specs.Hex.{encode_lower}
use Rattle.script_player.proofs.digits.read_into.Given as goal

abbrev pub invariant-loop-block : goal.invariant-loop-block
invariant-loop-block l = (length l.rest % 2 ≡ 0) × (2 * vec_len l.bytes + length l.rest ≤ 2 * vec_capacity l.bytes)
    × (l.digits ≡ encode_lower l.bytes.items ++ l.rest)

abbrev pub decreases-loop-block : goal.decreases-loop-block
decreases-loop-block l = length l.rest
