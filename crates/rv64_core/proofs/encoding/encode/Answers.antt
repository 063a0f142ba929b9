use Rattle.std.proofs.Common.{◌∙◌}
use Rattle.rv64_core.proofs.Returned.{encoded_decoded}
use Rattle.rv64_core.proofs.encoding.encode.Goals as goal

pub returns-clause-inverse : goal.returns-clause-inverse
returns-clause-inverse c w h e = c.word_of.ensures ∙ encoded_decoded w c.args.instr h e
