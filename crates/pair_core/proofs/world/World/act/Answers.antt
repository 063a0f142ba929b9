use Rattle.std.proofs.Common.{rules}
use Rattle.std.proofs.Common.{refl, subst}
use Rattle.pair_core.specs.{internal.WorldFields.pair_of, Pair.{Pair, AfterRefusal}}
use Rattle.pair_core.specs.laws.Outcomes.{after_none}
use Rattle.pair_core.proofs.ReplicationLaws.{refused_replicates}
use Rattle.pair_core.proofs.world.World.act.Goals as goal

pub returns-in-Some : goal.returns-in-Some
returns-in-Some c = (
  search rules,
  record {
    start = refl;
    lines = refl;
    replicates = refused_replicates c.args.event c.in-Some.why c.args.self.now.nodes;
    refused =
        subst (λ (v : Pair). AfterRefusal c.in-Some.why v v) c.self.view_is (after_none (pair_of c.self.inside) c.self.invariant c.in-Some.why);
  },
  search rules,
  search rules,
)
