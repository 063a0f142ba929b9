-- Every byte of the blocks so far is 0.
use Rattle.std.proofs.Common.{◌≡◌, ◌*◌, take, All}
use Rattle.page_lanes.proofs.slices.is_zero.Given as goal

abbrev pub invariant-loop-block : goal.invariant-loop-block
invariant-loop-block l = All (λ b. b ≡ 0) (take (64 * l.block-index) l.bytes)
