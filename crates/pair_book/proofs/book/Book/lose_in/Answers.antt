use Rattle.std.proofs.Common.{◌≡◌, ℕ, List, length, ap, ◌∙◌, true, Option}
use Rattle.frame_ports.specs.{Lands.list_of, Ports.PortsState}
use Rattle.pair_history.specs.Entries.{Entry}
use Rattle.pair_record.specs.{Protocol.lost_in, Record.ports_after_lose_in}
use Rattle.pair_book.proofs.LineLosses.{Drops, drops-in, told-tied, told-committed, told-texts, dropped, kept, empty}
use Rattle.pair_book.proofs.book.Book.lose_in.Goals.{In_ok-lose_in}
use Rattle.pair_book.proofs.book.Book.lose_in.Goals as goal

-- what the line loses, and the ports then
abbrev lost : ℕ → ℕ → PortsState → Option Entry
lost client place p = lost_in (list_of p.inboxes client) place

abbrev left : ℕ → ℕ → PortsState → PortsState
left client place p = ports_after_lose_in p client place

drops : (g : _) (c : In_ok-lose_in g) → c.in_ok-lose_in.field-0 ≡ true → Drops g.P.Pair.start c.self.inside.seats.steps c.self.inside.record
    c.lose_in.new.self (lost c.args.client c.args.place c.self.inside.record.ports) (left c.args.client c.args.place c.self.inside.record.ports)
drops g c there =
    let e = c.in_ok-lose_in.ensures in
    drops-in g.P.Pair.start c.self.inside.seats.steps c.self.inside.record c.lose_in.new.self c.self.invariant.0 c.self.invariant.1
    c.is_word_full-word_full.result c.args.client c.args.place c.in_ok-lose_in.field-0 there e.free e.done e.ports

count-is : (g : _) (c : In_ok-lose_in g) → c.len-before.result ≡ length c.self.inside.record.protocol.journal.history
count-is g c = c.len-before.ensures ∙ ap (λ (es : List Entry). length es) c.history.ensures

pub tell-requires-clause-tied : goal.tell-requires-clause-tied
tell-requires-clause-tied g c =
    let at = (goal.at.tell-requires-clause-tied g c).In_ok-lose_in in
    told-tied g.P.Pair.start c.self.inside.seats c.self.inside.record c.lose_in.new.self c.self.inside.texts c.seat.inside.member c.seat.invariant
    (lost c.args.client c.args.place) (left c.args.client c.args.place) (drops g at c.if-branch.true) c.len-before.result (count-is g at)

pub tell-requires-clause-committed : goal.tell-requires-clause-committed
tell-requires-clause-committed g c =
    let at = (goal.at.tell-requires-clause-committed g c).In_ok-lose_in in
    told-committed g.P.Pair.start c.self.inside.seats c.self.inside.record c.lose_in.new.self c.self.inside.texts c.seat.inside.member
    c.seat.invariant (lost c.args.client c.args.place) (left c.args.client c.args.place) (drops g at c.if-branch.true) c.len-before.result
    (count-is g at)

pub invariant_of-self-then-branch : goal.invariant_of-self-then-branch
invariant_of-self-then-branch g c =
    let at = (goal.at.invariant_of-self-then-branch g c).In_ok-lose_in in (
      c.tell.ensures.tied,
      c.tell.ensures.committed,
      told-texts g.P.Pair.start c.self.inside.seats c.self.inside.record c.lose_in.new.self c.self.inside.texts c.seat.inside.member
          c.seat.invariant (lost c.args.client c.args.place) (left c.args.client c.args.place) (drops g at c.if-branch.true)
          c.len-before.result (count-is g at) c.self.invariant.2 c.tell.new.seats c.tell.ensures.seats,
    )

pub returns-then-branch-clause-done : goal.returns-then-branch-clause-done
returns-then-branch-clause-done g c =
    let at = (goal.at.returns-then-branch-clause-done g c).In_ok-lose_in in
    dropped g.P.Pair.start c.self.inside.seats c.self.inside.record c.lose_in.new.self c.self.inside.texts c.seat.inside.member c.seat.invariant
    (lost c.args.client c.args.place) (left c.args.client c.args.place) (drops g at c.if-branch.true) c.len-before.result (count-is g at)
    c.args.self.now c.self.view_is c.tell.new.seats c.args.seat.now c.tell.new.member c.seat.view_is c.tell.ensures.seats
    c.tell.ensures.member c.tell.ensures.before c.tell.ensures.own

pub invariant_of-self-else-branch : goal.invariant_of-self-else-branch
invariant_of-self-else-branch g c =
    let e = c.in_ok-lose_in.ensures in
    kept g.P.Pair.start c.self.inside.seats c.self.inside.record c.lose_in.new.self c.self.inside.texts c.seat.inside.member c.seat.invariant
    (lost c.args.client c.args.place) (left c.args.client c.args.place) c.in_ok-lose_in.field-0 c.if-branch.false e.done e.ports
    c.meet.new.self c.meet.ensures.keeper c.self.invariant

pub returns-else-branch-clause-done : goal.returns-else-branch-clause-done
returns-else-branch-clause-done g c =
    let e = c.in_ok-lose_in.ensures in
    empty g.P.Pair.start c.self.inside.seats c.self.inside.record c.lose_in.new.self c.self.inside.texts c.seat.inside.member c.seat.invariant
    (lost c.args.client c.args.place) (left c.args.client c.args.place) c.in_ok-lose_in.field-0 c.if-branch.false e.done e.ports
    c.meet.new.self c.meet.ensures.keeper c.args.self.now c.self.view_is c.args.seat.now c.meet.new.member c.seat.view_is
    c.meet.ensures.member c.meet.ensures.before c.meet.ensures.own
