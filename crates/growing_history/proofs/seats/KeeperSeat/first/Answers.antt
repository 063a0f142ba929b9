use Rattle.std.proofs.Common.{◌≡◌, ℕ, [], List, length, arith, refl, sym, ap, ◌∙◌, subst}
use Rattle.atomic_table.specs.Table.{Allows}
use Rattle.growing_history.specs.Views.{View, Rule, IsKeeper, keeper_view}
use Rattle.growing_history.specs.Plays.{Opens}
use Rattle.growing_history.proofs.Start.{legal-nil}
use Rattle.growing_history.proofs.Moves.{opens}
use Rattle.growing_history.proofs.seats.KeeperSeat.first.Goals as goal

pub load-requires : goal.load-requires
load-requires g c =
    let r = c.requires in
    let t = c.args.clock.now in
    let start = g.P.Pair.start in
    let Fine : View × List (ℕ × Unit {0}) → Type 0 = λ m.
    Allows Rule t.table.shared.table_id.slots c.args.seat.id m 0 (λ n. n) (λ n w. Opens start m.0 n w.0 × (w.1 ≡ m.1)) in
    (r.word ∙ sym t.named, omega (arith, t.one_word), subst Fine (sym r.seat) (opens _ _ start [] (legal-nil start)))

pub invariant_of-result : goal.invariant_of-result
invariant_of-result g c =
    let start = g.P.Pair.start in
    let e = c.load.ensures in
    let now : c.load.new.seat.me.0 ≡ keeper_view start 0 [] [] = e.2.0 in
    let kept : IsKeeper start (keeper_view start 0 [] []) = record { is = refl; legal = legal-nil start } in (
      e.0 ∙ c.requires.word,
      e.2.1 ∙ ap (λ m. m.1) c.requires.seat,
      subst (IsKeeper start) (sym now) kept,
      ap (λ (v : View). length v.steps) (sym now),
      ap (λ (v : View). v.enrolled) (sym now),
    )
