use Rattle.std.proofs.Common.{◌∙◌}
use Rattle.rv64_core.proofs.Found.{decoded_any}
use Rattle.rv64_core.proofs.decoding.decode.Goals as goal

pub returns-clause-any_row : goal.returns-clause-any_row
returns-clause-any_row c row at f = c.by_opcode.ensures ∙ decoded_any c.args.word row at f
