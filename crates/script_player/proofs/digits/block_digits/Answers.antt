use Rattle.std.proofs.Common.{◌≡◌, length, replicate, subst, bit_and, arith}
use Rattle.std.specs.List.{AllByRecursion}
use Rattle.std.specs.Simd.Lanes.{zip2}
use Rattle.script_player.proofs.LaneLemmas.{IsSmall, down, each-fits, high-small, low-small, block-spelled}
use Rattle.script_player.proofs.digits.block_digits.Goals as goal

pub digits_of-first-requires : goal.digits_of-first-requires
digits_of-first-requires c =
    let bs = c.args.block.now in
    let sixteen : length bs ≡ 16 = omega arith in
    subst (λ n. AllByRecursion IsSmall (zip2 down bs (replicate n 4))) sixteen (high-small bs (each-fits bs c.fits-block))

pub digits_of-second-requires : goal.digits_of-second-requires
digits_of-second-requires c =
    let bs = c.args.block.now in
    let sixteen : length bs ≡ 16 = omega arith in
    subst (λ n. AllByRecursion IsSmall (zip2 bit_and bs (replicate n 15))) sixteen (low-small bs)

pub returns : goal.returns
returns c =
    let bs = c.args.block.now in
    let sixteen : length bs ≡ 16 = omega arith in
    block-spelled bs c.digits_of-first.result c.digits_of-second.result sixteen c.digits_of-first.ensures c.digits_of-second.ensures
