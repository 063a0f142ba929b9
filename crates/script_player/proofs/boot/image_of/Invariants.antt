use Rattle.std.proofs.Common.{◌≡◌, take}
use Rattle.script_player.specs.Guests.{words_image}
use Rattle.script_player.proofs.boot.image_of.Given as goal

abbrev pub invariant-loop-word : goal.invariant-loop-word
invariant-loop-word l = l.image.items ≡ words_image (take l.word-index l.words)
