use Rattle.std.proofs.Common.{◌≡◌, ◌+◌, ◌<◌, ◌*◌, ◌%◌, ◌^◌, w16, ap, sym, ◌∙◌, arith, lit<}
use Rattle.std.proofs.lemmas.Nat.Bits.{bit_at-trailing_zeros}
use Rattle.std.proofs.Math.Nat.{mod-lt}
use Rattle.frame_ports.specs.Targets.{has_target}
use Rattle.frame_ports.proofs.TargetLemmas.{only_one}
use Rattle.frame_ports.proofs.targets.Targets.span.Goals as goal

pub returns-clause-all : goal.returns-clause-all
returns-clause-all c = λ d pos most there.
    let bits = c.self.inside.bits in
    let same = c.if-self-zeros.false in
    let some = c.if-self-eq0.false in
    let low : 1 * 2 ^ c.from-client.result % 65536 < 65536 = mod-lt (1 * 2 ^ c.from-client.result) (lit< tt) in
    let is = c.from-client.ensures in
    let small : bits < 65536 = omega (arith, same, low, is) in
    let place = bit_at-trailing_zeros w16 bits (omega (arith, some)) small in
    let few = c.requires in
    let only : d ≡ c.from-client.result + 1 =
    only_one bits c.from-client.result d (omega (arith, is, place.0)) (same ∙ ap (λ k. 1 * 2 ^ k % 65536) (sym is)) pos
    (omega (arith, most, few)) (ap (λ n. has_target n d) c.self.view_is ∙ there) in
    let min = c.min.ensures in
    (omega (arith, only), omega (arith, only, most, min))
