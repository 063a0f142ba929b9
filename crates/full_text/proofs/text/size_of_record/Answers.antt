-- A mask has at most 64 ones.
use Rattle.std.proofs.Common.{arith}
use Rattle.std.proofs.lemmas.Nat.{ones-le}
use Rattle.full_text.proofs.text.size_of_record.Goals as goal

pub returns-clause-most : goal.returns-clause-most
returns-clause-most c = omega (arith, ones-le 64 c.args.page.mask (omega arith))
