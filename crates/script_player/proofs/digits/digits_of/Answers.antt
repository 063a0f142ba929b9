use Rattle.std.proofs.Common.{◌≡◌, map, subst}
use Rattle.script_player.proofs.LaneLemmas.{all_made, digit, made-digits}
use Rattle.script_player.proofs.digits.digits_of.Goals as goal

pub returns : goal.returns
returns c = let ns = c.args.numbers in subst (λ k. all_made ns k ≡ map digit ns) c.fits-numbers.0 (made-digits ns c.requires)
