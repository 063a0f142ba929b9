use Rattle.std.proofs.Common.{length}
use Rattle.script_player.proofs.WordsLemmas.{Reading}
use Rattle.script_player.proofs.boot.read_words.Given as goal

abbrev pub invariant-loop-word : goal.invariant-loop-word
invariant-loop-word l = Reading l.text l.words.items l.rest

abbrev pub decreases-loop-word : goal.decreases-loop-word
decreases-loop-word l = length l.rest
