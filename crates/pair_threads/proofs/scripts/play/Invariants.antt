-- So many actions were made and answered.
use Rattle.std.proofs.Common.{◌≡◌, ◌≤◌, [], length, vec_capacity}
use Rattle.pair_threads.proofs.ToldLemmas.{HasMadeSome}
use Rattle.pair_threads.proofs.scripts.play.Given as goal

abbrev pub invariant-loop-action : goal.invariant-loop-action
invariant-loop-action g l =
    l.initial.replies.items ≡ []
    → length l.actions ≤ vec_capacity l.initial.replies
    → HasMadeSome g.P.Pair.start l.actions l.action-index l.replies.items l.initial.client l.client
    × (length l.actions ≤ vec_capacity l.replies)
