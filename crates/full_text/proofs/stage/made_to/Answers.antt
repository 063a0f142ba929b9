-- What it had come to before, it has come to still.
use Rattle.std.proofs.Common.{◌+◌}
use Rattle.full_text.proofs.StageLemmas.{made-further}
use Rattle.full_text.proofs.stage.made_to.Goals as goal

pub returns-clause-further : goal.returns-clause-further
returns-clause-further c =
    made-further (c.args.from + c.args.count) c.args.text c.make_to.new.self c.make_to.ensures.grows c.make_to.ensures.size
