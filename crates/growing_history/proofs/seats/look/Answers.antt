use Rattle.std.proofs.Common.{arith, sym, ◌∙◌}
use Rattle.growing_history.proofs.Moves.{looks}
use Rattle.growing_history.proofs.seats.look.Goals as goal

pub load-requires : goal.load-requires
load-requires g c =
    let r = c.requires in
    let t = c.args.clock.now in
    (r.word ∙ sym t.named, omega (arith, t.one_word), looks _ _ _ _ r.seat.0)
