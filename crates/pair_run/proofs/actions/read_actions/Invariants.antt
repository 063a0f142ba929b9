-- the actions so far, and those of the fields that are left, are the text's
use Rattle.std.proofs.Common.{map}
use Rattle.pair_run.specs.RunFile.{fields_of}
use Rattle.pair_run.specs.Views.{action_of}
use Rattle.pair_run.proofs.ActionLemmas.{Comes, fields_left, most_fields, texts}
use Rattle.pair_run.proofs.actions.read_actions.Given as goal

abbrev pub invariant-loop-left : goal.invariant-loop-left
invariant-loop-left l = Comes (fields_of l.text) (map action_of l.actions.items) (fields_left (texts l.left))

abbrev pub decreases-loop-left : goal.decreases-loop-left
decreases-loop-left l = most_fields (texts l.left)
