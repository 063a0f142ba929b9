-- the fields so far were added
use Rattle.std.proofs.Common.{◌≡◌, ◌≤◌, ◌+◌, ◌*◌, ◌++◌, take}
use Rattle.arrayvec.specs.ArrayVec.{array_vec_len}
use Rattle.script_player.specs.Printed.{spaced}
use Rattle.script_player.proofs.text.add_spaced.Given as goal

abbrev pub invariant-loop-field : goal.invariant-loop-field
invariant-loop-field l = (l.text.items ≡ l.initial.text.items ++ spaced (take l.field-index l.fields))
    × (array_vec_len l.text ≤ array_vec_len l.initial.text + 41 * l.field-index)
