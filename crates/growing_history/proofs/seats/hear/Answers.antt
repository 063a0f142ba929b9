use Rattle.std.proofs.Common.{arith, sym, ◌∙◌}
use Rattle.growing_history.proofs.Moves.{hears}
use Rattle.growing_history.proofs.seats.hear.Goals as goal

pub join_seat-requires : goal.join_seat-requires
join_seat-requires g c =
    let r = c.requires in
    let t = c.args.clock.now in
    let s = c.into_seat-other.ensures in
    (r.word.0 ∙ sym t.named, s.0 ∙ (r.word.1 ∙ sym t.named), s.3, omega (arith, t.one_word), hears _ _ _ _)
