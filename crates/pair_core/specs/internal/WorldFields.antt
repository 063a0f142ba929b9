-- How the fields of a world stand for what contracts see.
use Rattle.pair_history.specs.HistoryState.{start_state}
use Rattle.pair_core.specs.declared.world.World.TheInside.{Inside}
use Rattle.pair_core.specs.Pair.{Pair}
use Rattle.pair_core.specs.Invariant.{Holds}

abbrev pub pair_of : Inside → Pair
pair_of a = record {
  start = start_state a.shape.pages a.shape.sectors a.boot_image.items a.clients;
  protocol = record { state = a.record.protocol; lines = a.lines.lines };
  ports = a.record.ports;
  nodes = a.nodes.nodes;
}

abbrev pub AreFields : Inside → Type 0
AreFields a = Holds (pair_of a)
