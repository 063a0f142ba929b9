use Rattle.std.proofs.Common.{sym, subst}
use Rattle.pair_history.specs.HistoryState.{start_state}
use Rattle.pair_core.specs.Invariant.{Holds}
use Rattle.pair_core.specs.laws.Events.{start_holds}
use Rattle.pair_core.proofs.world.World.boot.Goals as goal

pub invariant_of-world : goal.invariant_of-world
invariant_of-world c =
    let image = c.in_ok-boot_image.ensures.items in
    subst Holds (λ i. record {
      start = start_state c.args.shape.pages c.args.shape.sectors (sym image i) c.args.clients;
      protocol = record { state = sym c.in_ok-record.ensures.protocol i; lines = sym c.new-lines.ensures i };
      ports = sym c.in_ok-record.ensures.ports i;
      nodes = sym c.in-Ok.ensures i;
    })
    (start_holds c.args.shape c.args.image.now c.args.clients c.requires.fits)
