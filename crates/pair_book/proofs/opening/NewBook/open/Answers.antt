use Rattle.std.proofs.Common.{rules, arith, ◌≤◌, length, subst}
use Rattle.growing_history.specs.LogState.{client_seat}
use Rattle.pair_book.specs.internal.{Tie.IsTied}
use Rattle.pair_book.proofs.LiveLaws.{first_live}
use Rattle.pair_book.proofs.opening.NewBook.open.Goals as goal

pub first-requires : goal.first-requires
first-requires g c =
    let start = g.P.Pair.start in
    let k = c.self-2.inside.keeper in
    let tied : IsTied start k.steps c.self-2.inside.record.protocol c.self-2.inside.record.ports = c.self-2.invariant.0 in
    let most : k.enrolled ≤ client_seat (length start.boxes) =
    subst (λ n. k.enrolled ≤ client_seat n) tied.clients c.self-2.invariant.3 in
    let least : client_seat (length start.boxes) ≤ k.enrolled = search (rules, arith, tied.clients) in
    first_live start k c.self-2.invariant.1 least most (search (rules, arith, tied.clients))
