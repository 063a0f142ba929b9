use Rattle.std.proofs.Common.{◌≡◌, refl}
use Rattle.pair_nodes.proofs.laws.what_is_let_out_reads_so.Goals as goal

pub returns-clause-lost : goal.returns-clause-lost
returns-clause-lost c a b d = refl

pub returns-clause-twice : goal.returns-clause-twice
returns-clause-twice c a e = cc

pub returns-clause-unsent : goal.returns-clause-unsent
returns-clause-unsent c a e = cc

pub returns-clause-order : goal.returns-clause-order
returns-clause-order c a b apart e =
    let same : a ≡ b = cc in
    apart same
