use Rattle.std.proofs.Common.{arith, sym, ◌∙◌}
use Rattle.growing_history.proofs.Moves.{takes_in}
use Rattle.growing_history.proofs.seats.lend.Goals as goal

pub join_seat-requires : goal.join_seat-requires
join_seat-requires g c =
    let r = c.requires in
    let t = c.args.clock.now in
    let s = c.into_seat-seat.ensures in
    (r.word.0 ∙ sym t.named, s.0 ∙ (r.word.1 ∙ sym t.named), s.3, omega (arith, t.one_word), takes_in _ _ _ _ r.keeper.0)
