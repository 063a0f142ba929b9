use Rattle.std.proofs.Common.{Some, List, map, sym, subst}
use Rattle.hypervisor.specs.Clients.{ClientState}
use Rattle.pair_threads.specs.Lines.{clients_of}
use Rattle.pair_threads.specs.Seats.{AreSeated}
use Rattle.pair_threads.proofs.SeatLemmas.{all-seated}
use Rattle.pair_threads.proofs.file_run.assign.Goals as goal

pub scripts_of-requires : goal.scripts_of-requires
scripts_of-requires g c =
    let clients = clients_of c.args.lines.items in
    subst (λ (cs : List ClientState). AreSeated (map Some cs) clients) (sym c.in_ok-clients.ensures.are)
    (all-seated c.args.pair.clients clients c.requires.clients)

pub returns-clause-scripts : goal.returns-clause-scripts
returns-clause-scripts g c = c.in_ok-scripts.ensures

pub returns-clause-unseen : goal.returns-clause-unseen
returns-clause-unseen g c = c.in_ok-clients.ensures.own
