use Rattle.std.proofs.Common.{ℕ, sym, subst}
use Rattle.frame_ports.specs.Addresses.{IsFrame}
use Rattle.pair_history.specs.Entries.{Frame}
use Rattle.hypervisor.proofs.runner.take_in.Goals as goal

pub arrive-taken-requires : goal.arrive-taken-requires
arrive-taken-requires c =
    let x = c.given-item.result in
    let is = subst (λ (y : ℕ × Frame). IsFrame y.1) (sym c.given-item.is) (c.requires c.loop-given.given-index x c.loop-given-test.true) in
    record { long = is.0 }
