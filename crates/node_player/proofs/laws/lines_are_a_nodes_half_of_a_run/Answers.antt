use Rattle.node_player.proofs.BetweenLemmas.{reached-between}
use Rattle.node_player.proofs.HalfLemmas.{primarys-half, standbys-half}
use Rattle.node_player.proofs.laws.lines_are_a_nodes_half_of_a_run.Goals as goal

pub returns-clause-primary : goal.returns-clause-primary
returns-clause-primary c = λ no_memory s flags line printed q reached h.
    let laws = c.what_a_primary_does_may_happen.ensures in
    primarys-half no_memory s flags (record {
      cut = laws.cut s;
      acknowledge = laws.acknowledge s;
      alone = laws.alone s;
      protect = λ count q x. let made = laws.protect s count q x in (made.0, made.1.0, made.2, made.3);
      step = laws.step s;
      full = laws.full s;
      lone = laws.lone s;
    }) line printed q (reached-between (record { primary = s.primary; flags = flags }) reached) h

pub returns-clause-standby : goal.returns-clause-standby
returns-clause-standby c = λ no_memory s line printed new h.
    let laws = c.what_a_standby_does_may_happen.ensures in
    standbys-half no_memory s (record {
      piece_comes = laws.piece s;
      restart = laws.restart s;
      commit = λ whole. let made = laws.commit s whole in (made.0, made.1);
      go_live = laws.go_live s;
    }) line printed new h
