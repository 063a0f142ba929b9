use Rattle.std.proofs.Common.{refl, arith}
use Rattle.pair_threads.specs.internal.Scripts.{script_state}
use Rattle.pair_threads.proofs.scripts.add_script.Goals as goal

pub returns-clause-added : goal.returns-clause-added
returns-clause-added g c = (
  script_state c.take_client-client.result c.args.line c.in_ok-replies.replies,
  record {
    client = c.take_client-client.ensures.client;
    line = refl;
    room = record { none = c.in_ok-replies.ensures.items; enough = omega (arith, c.in_ok-replies.ensures.capacity, c.len.ensures) };
  },
  c.in_ok-push.ensures.items,
)
