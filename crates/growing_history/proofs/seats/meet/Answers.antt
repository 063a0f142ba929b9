use Rattle.std.proofs.Common.{arith, sym, ◌∙◌}
use Rattle.growing_history.proofs.Moves.{meets}
use Rattle.growing_history.proofs.seats.meet.Goals as goal

pub load-requires : goal.load-requires
load-requires g c =
    let r = c.requires in
    let t = c.args.clock.now in
    (r.word ∙ sym t.named, omega (arith, t.one_word), meets _ _ _ _ r.keeper.0)
