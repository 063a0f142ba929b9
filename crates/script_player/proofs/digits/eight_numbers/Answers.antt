use Rattle.std.proofs.Common.{◌≡◌, map, subst}
use Rattle.std.specs.List.{AllByRecursion}
use Rattle.script_player.proofs.LaneLemmas.{IsSmall, digit, numbers, read-all}
use Rattle.script_player.proofs.digits.eight_numbers.Goals as goal

pub returns-clause-digits : goal.returns-clause-digits
returns-clause-digits c =
    let cs = c.args.digits in
    subst (λ n. map digit (numbers cs n) ≡ cs) c.fits-digits.0 (read-all cs c.fits-digits.1 c.requires).0

pub returns-clause-small : goal.returns-clause-small
returns-clause-small c =
    let cs = c.args.digits in
    subst (λ n. AllByRecursion IsSmall (numbers cs n)) c.fits-digits.0 (read-all cs c.fits-digits.1 c.requires).1
