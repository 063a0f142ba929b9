use Rattle.std.proofs.Common.{◌<◌, ◌^◌, ℤ, unsigned_abs, subst, sym}
use Rattle.rv64_core.proofs.Signed.{product_below, product_is}
use Rattle.rv64_core.proofs.arithmetic.product.Goals as goal

pub returns-clause-value : goal.returns-clause-value
returns-clause-value c = product_is c.args.a c.args.b c.ranges.a c.ranges.b c.requires.first c.requires.second

pub returns-clause-bound : goal.returns-clause-bound
returns-clause-bound c =
    let Below : ℤ → Type 0 = λ z. unsigned_abs z < 2 ^ 127 in
    let is = product_is c.args.a c.args.b c.ranges.a c.ranges.b c.requires.first c.requires.second in
    subst Below (sym is) (product_below c.args.a c.args.b c.requires.first c.requires.second)
