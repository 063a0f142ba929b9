-- so many fields were read, each an action
use Rattle.std.proofs.Common.{◌≡◌, ◌≤◌, ◌+◌, List, length}
use Rattle.pair_run.specs.RunFile.{Action, fields_of}
use Rattle.pair_run.proofs.ActionLemmas.{AreRead, fields_left, most_fields, texts}
use Rattle.pair_run.proofs.actions.count_actions.Given as goal

abbrev pub invariant-loop-left : goal.invariant-loop-left
invariant-loop-left l =
    (l.count + most_fields (texts l.left) ≤ length l.text + 1)
    × ((done : List Action) × (length done ≡ l.count) × AreRead (fields_of l.text) done (fields_left (texts l.left)))

abbrev pub decreases-loop-left : goal.decreases-loop-left
decreases-loop-left l = most_fields (texts l.left)
