use Rattle.std.proofs.Common.{Some, None}
use Rattle.node_player.{specs.Nodes.node_of, proofs.RoleLemmas.sector-so}
use Rattle.node_player.proofs.shows.show_sector.Goals as goal

pub returns-in-Some : goal.returns-in-Some
returns-in-Some g c =
    let node = node_of c.args.role.now in
    (_, c.put_sector.ensures, sector-so g.O.Sink.no_memory node c.args.sector (Some c.in-Some.bytes.now) c.in-Some.ensures)

pub returns-in-None : goal.returns-in-None
returns-in-None g c = (_, c.put.ensures, sector-so g.O.Sink.no_memory (node_of c.args.role.now) c.args.sector None c.in-None.ensures)
