use Rattle.std.proofs.lemmas.Result.{err_from_is_err_and}
use Rattle.pair_threads.proofs.file_run.play.Goals as goal

pub returns-in_err-pair-clause-why : goal.returns-in_err-pair-clause-why
returns-in_err-pair-clause-why g c =
    let p = err_from_is_err_and c.from_residual.result c.from_residual.ensures.1 in rw (p.1, p.2) tt
