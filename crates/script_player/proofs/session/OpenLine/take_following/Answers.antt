use Rattle.std.proofs.Common.{arith, refl, sym}
use Rattle.script_player.proofs.OpenLines.{taken-following}
use Rattle.script_player.proofs.session.OpenLine.take_following.Goals as goal

pub returns-clause-taken : goal.returns-clause-taken
returns-clause-taken c = λ follow text held.
    let kept = c.add.ensures.held text held in
    taken-following follow c.args.self.now _ text c.args.bytes.now c.in-Ok.due c.min-count.result (sym c.in-Ok.ensures.1) (omega arith)
    c.min-count.ensures (record { kept = kept.kept; first = kept.first }) _ refl refl
