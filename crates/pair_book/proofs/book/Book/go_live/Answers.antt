use Rattle.std.proofs.Common.{rules, ◌≡◌, ◌+◌, List, [], ◌∷◌, ◌++◌, map, sym, ap, subst, ◌∙◌}
use Rattle.pair_history.specs.Entries.{Frame}
use Rattle.pair_record.specs.Kept.{Brings}
use Rattle.pair_record.specs.Protocol.{Outcome, Record}
use Rattle.growing_history.specs.Steps.{Step, WentLive, step}
use Rattle.growing_history.specs.LogState.{LegalSteps, state_at}
use Rattle.growing_history.specs.Views.{Keeper}
use Rattle.pair_book.specs.{Books.BookState, Packets.TextsState}
use Rattle.pair_book.specs.internal.{Committed.KeepsCommitted, Tie.{IsTied, book_state}}
use Rattle.pair_book.proofs.LiveTies.{has_stopped, live_may, brings, live-tied, went-live-keeps}
use Rattle.pair_book.proofs.{RunLaws.runs-live, StandingLaws.{has-image, seen-guest, stands-on}}
use Rattle.pair_book.proofs.TextLaws.{no-texts}
use Rattle.pair_book.proofs.book.Book.go_live.Goals as goal

pub go_live-runner-requires-clause-legal : goal.go_live-runner-requires-clause-legal
go_live-runner-requires-clause-legal g c =
    let start = g.P.Pair.start in
    let r = c.self.inside.record in
    let seat = c.args.seat.now in
    let kept : List (List Frame) = map (λ v. v.items) c.args.kept.now in
    let may = live_may start (book_state c.self.inside.seats r c.self.inside.texts) seat.number c.args.first kept (search rules) in
    let tied = live-tied c.self.invariant.0 c.self.invariant.1 c.keep.ensures.record c.keep.ensures.numbers may.free seat may.mine
    c.meet.ensures.before c.meet.ensures.own c.requires.stands.0 c.args.first kept c.requires.stands.1 (c.self.inside.seats.enrolled + 1) 0
    (search (rules, c.next-new.ensures.new)) (ap (λ (o : Outcome). o.1) c.in_ok-go_live.ensures.ok) c.in_ok-go_live.ensures.ports in
    subst (λ (k : Keeper). LegalSteps start (k.steps ++ step 0 (WentLive (k.enrolled + 1)) ∷ [])) (sym c.meet.ensures.keeper) tied.legal

pub invariant_of-self-2 : goal.invariant_of-self-2
invariant_of-self-2 g c =
    let start = g.P.Pair.start in
    let steps = c.self.inside.seats.steps in
    let r = c.self.inside.record in
    let now = c.go_live.new.self in
    let seat = c.args.seat.now in
    let kept : List (List Frame) = map (λ v. v.items) c.args.kept.now in
    let may = live_may start (book_state c.self.inside.seats r c.self.inside.texts) seat.number c.args.first kept (search rules) in
    let tied = live-tied c.self.invariant.0 c.self.invariant.1 c.keep.ensures.record c.keep.ensures.numbers may.free seat may.mine
    c.meet.ensures.before c.meet.ensures.own c.requires.stands.0 c.args.first kept c.requires.stands.1 (c.self.inside.seats.enrolled + 1) 0
    (search (rules, c.next-new.ensures.new)) (ap (λ (o : Outcome). o.1) c.in_ok-go_live.ensures.ok) c.in_ok-go_live.ensures.ports in
    let keeps = went-live-keeps c.self.invariant.0 c.self.invariant.1 c.keep.ensures.record c.keep.ensures.numbers may.free seat may.mine
    c.meet.ensures.before c.meet.ensures.own c.requires.stands.0 c.args.first kept c.requires.stands.1 (c.self.inside.seats.enrolled + 1) 0
    (search (rules, c.next-new.ensures.new)) (ap (λ (o : Outcome). o.1) c.in_ok-go_live.ensures.ok) c.in_ok-go_live.ensures.ports in
    let there : c.meet-2.new.self.steps ≡ steps ++ step 0 (WentLive (c.self.inside.seats.enrolled + 1)) ∷ [] =
    ap (λ (k : Keeper). k.steps) (c.meet-2.ensures.keeper ∙ c.go_live-runner.ensures.keeper)
    ∙ ap (λ (k : Keeper). k.steps ++ step 0 (WentLive (k.enrolled + 1)) ∷ []) c.meet.ensures.keeper in
    let done = ap (λ (o : Outcome). o.1) c.in_ok-go_live.ensures.ok in
    let here : IsTied start c.meet-2.new.self.steps now.protocol now.ports =
    subst (λ (xs : List Step). IsTied start xs now.protocol now.ports) (sym there) tied in (
      here,
      subst (λ (xs : List Step). KeepsCommitted start xs now.protocol now.ports) (sym there) keeps,
      no-texts here (ap (λ (y : Record). y.journal.sealed) done)
          (ap (λ (y : Record). y.window.to_acknowledge) done ∙ sym (ap (λ (y : Record). y.window.to_cut) done))
          (ap (λ (t : TextsState). t.packets) c.clear.ensures),
    )

pub returns-clause-owed : goal.returns-clause-owed
returns-clause-owed g c =
    let start = g.P.Pair.start in
    let r = c.self.inside.record in
    let seat = c.args.seat.now in
    let kept : List (List Frame) = map (λ v. v.items) c.args.kept.now in
    let may = live_may start (book_state c.self.inside.seats r c.self.inside.texts) seat.number c.args.first kept (search rules) in
    subst (λ (b : BookState). (state_at start b.steps).marked ≡ 0 → Brings b.protocol b.ports c.args.first kept) c.self.view_is
    (brings c.self.invariant.0 c.self.invariant.1 c.keep.ensures.record c.keep.ensures.numbers may.free seat may.mine c.meet.ensures.before
    c.meet.ensures.own c.requires.stands.0 c.args.first kept c.requires.stands.1)

pub returns-clause-runs : goal.returns-clause-runs
returns-clause-runs g c =
    let start = g.P.Pair.start in
    let seats = c.self.inside.seats in
    let steps = seats.steps in
    let r = c.self.inside.record in
    let seat = c.args.seat.now in
    let kept : List (List Frame) = map (λ v. v.items) c.args.kept.now in
    let may = live_may start (book_state seats r c.self.inside.texts) seat.number c.args.first kept (search rules) in
    let stopped = has_stopped r.protocol.mode may.free in
    let is : c.go_live-runner.result
    ≡ record { number = seats.enrolled + 1; steps = steps ++ step 0 (WentLive (seats.enrolled + 1)) ∷ [] } =
    search (rules, c.go_live-runner.ensures, c.meet.ensures.keeper) in
    λ image last sent stands.
    let begins = c.meet.ensures.before in
    let legal = c.self.invariant.0.legal in
    let own = c.meet.ensures.own in
    let mode = sym c.self.invariant.0.mode ∙ stopped in
    let stood = stands-on start seat steps image last sent c.args.first kept begins legal own stands in (
      has-image start steps r.protocol r.ports c.self.invariant.0 c.keep.ensures.record stopped seat.number may.mine image last sent
          c.args.first kept stood,
      seen-guest start seat steps begins legal own mode may.mine image last sent c.args.first kept stands,
      runs-live start steps seat.number may.mine mode image last sent c.args.first kept stood
          (seats.enrolled + 1) c.go_live-runner.result is,
    )
