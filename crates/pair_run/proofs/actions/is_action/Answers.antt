use Rattle.pair_run.specs.RunFile.{deliver}
use Rattle.pair_run.proofs.actions.is_action.Goals as goal

pub returns-clause-some : goal.returns-clause-some
returns-clause-some c = λ yes.
    let written = c.are_lower_hex.ensures.some yes in
    (deliver written.0, (c.in-Some.digits.now, c.in-Some.ensures, written.1))
