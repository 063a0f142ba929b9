use Rattle.std.proofs.Common.{arith, sym, ◌∙◌}
use Rattle.growing_history.proofs.Moves.{gives_back}
use Rattle.growing_history.proofs.seats.take_back.Goals as goal

pub split_seat-requires : goal.split_seat-requires
split_seat-requires g c =
    let r = c.requires in
    let t = c.args.clock.now in
    (r.word ∙ sym t.named, omega (arith, t.one_word), gives_back _ _ r.keeper.0)
