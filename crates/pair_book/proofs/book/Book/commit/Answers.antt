use Rattle.std.proofs.Common.{rules, ◌≡◌, List, [], ◌∷◌, ◌++◌, ap, sym, ◌∙◌, subst, refl, Bool, true, false}
use Rattle.pair_record.specs.declared.event.Reply.TheVariants as replies
use Rattle.pair_record.specs.Protocol.{Outcome, Record, again_done, commit_done}
use Rattle.checkpoint_stream.specs.Text.{text}
use Rattle.growing_history.specs.Steps.{Step, step, steps_by}
use Rattle.growing_history.specs.Views.{Member, Keeper}
use Rattle.pair_book.specs.declared.failures.Ack.{Ack}
use Rattle.pair_book.specs.Books.{BookState}
use Rattle.pair_book.specs.Commits.{commit_of, is_earlier, AfterAgainOrNext, StandsAfterNext}
use Rattle.pair_book.specs.internal.{Committed.KeepsCommitted, Tie.{IsTied, book_state}}
use Rattle.pair_book.proofs.{Calls.{made, shown}, CommitRows.{MayCommit, commit_may, commit-live, some-committed}, CommitTies.committed-tied}
use Rattle.pair_book.proofs.CommittedTies.{committed-keeps}
use Rattle.pair_book.proofs.StandingCommits.{answered, answered-again, stands-again, stands-by}
use Rattle.pair_book.proofs.TextLaws.{texts-once-committed}
use Rattle.pair_book.proofs.book.Book.commit.Goals.{In_ok-reply, In-Committed, After-last_ack}
use Rattle.pair_book.proofs.book.Book.commit.Goals as goal

-- THE NEXT ONE: where nothing refuses it, its seat is the backup's, and something is sealed
later : (g : _) (c : In_ok-reply g)
    → is_earlier (book_state c.self.inside.seats c.self.inside.record c.self.inside.texts) c.in-Some-read.checkpoint.now ≡ false
later g c = search rules

may : (g : _) (c : In_ok-reply g) → MayCommit g.P.Pair.start (book_state c.self.inside.seats c.self.inside.record c.self.inside.texts)
    c.args.seat.now.number c.in-Some-read.checkpoint.now
may g c =
    commit_may g.P.Pair.start (book_state c.self.inside.seats c.self.inside.record c.self.inside.texts) c.args.seat.now.number
    c.in-Some-read.checkpoint.now (search rules) (later g c)

is-committed : (g : _) (c : In_ok-reply g) → c.commit.new.self.protocol ≡ (commit_done c.self.inside.record.protocol).1
is-committed g c = ap (λ (o : Outcome). o.1) c.in_ok-reply.ensures.ok

tied : (g : _) (c : In_ok-reply g)
    → IsTied g.P.Pair.start (c.self.inside.seats.steps ++ step c.args.seat.now.number (commit_of c.in-Some-read.checkpoint.now) ∷ [])
    c.commit.new.self.protocol c.commit.new.self.ports
tied g c =
    let may = may g c in
    committed-tied c.self.invariant.0 c.args.seat.now.number c.in-Some-read.checkpoint.now c.keep.ensures.record may.mine may.pair
    may.generation may.number may.some (is-committed g c) c.in_ok-reply.ensures.ports

told : (g : _) (c : In-Committed g)
    → (replies.Committed c.in-Committed.generation c.in-Committed.number, c.commit.new.self.protocol)
    ≡ commit_done c.self.inside.record.protocol
told g c = search rules

pub step-requires-clause-room : goal.step-requires-clause-room
step-requires-clause-room g c = (may g (goal.at.step-requires-clause-room g c).In_ok-reply).room

pub step-requires-clause-legal : goal.step-requires-clause-legal
step-requires-clause-legal g c = (tied g (goal.at.step-requires-clause-legal g c).In_ok-reply).legal

pub invariant_of-self-2 : goal.invariant_of-self-2
invariant_of-self-2 g c =
    let at = (goal.at.invariant_of-self-2 g c).In_ok-reply in
    let now = c.commit.new.self in
    let change = c.in-Some-read.checkpoint.now in
    let may = may g at in
    let done = is-committed g at in
    let keeps = committed-keeps c.self.invariant.1 c.args.seat.now.number c.self.invariant.0 change c.keep.ensures.record
    c.keep.ensures.numbers may.pair may.some done c.in_ok-reply.ensures.ports in
    let grown = ap (λ (k : Keeper). k.steps) c.step.ensures.keeper in (
      subst (λ (l : List Step). IsTied g.P.Pair.start l now.protocol now.ports) (sym grown) (tied g at),
      subst (λ (l : List Step). KeepsCommitted g.P.Pair.start l now.protocol now.ports) (sym grown) keeps,
      texts-once-committed c.self.invariant.2 c.keep.ensures.record c.args.seat.now.number change.generation change.number (text change)
          grown (ap (λ (y : Record). y.generation) done) (ap (λ (y : Record). y.window) done),
    )

pub returns-clause-done : goal.returns-clause-done
returns-clause-done g c =
    let at = (goal.at.returns-clause-done g c).In_ok-reply in
    let change = c.in-Some-read.checkpoint.now in
    let ack : Ack = record { generation = c.in-Committed.generation; number = c.in-Committed.number } in
    let seat = c.args.seat.now in
    let view = c.self.view_is in
    let now : BookState = book_state c.step.new.self c.commit.new.self c.self.inside.texts in
    let later = ap (λ (b : BookState). is_earlier b change) (sym view) ∙ later g at in
    rw c.in-Some-read.is
    (subst (λ (t : Bool). AfterAgainOrNext t change ack c.args.self.now now seat c.step.new.member) (sym later) (
      told g (goal.at.returns-clause-done g c).In-Committed ∙ ap (λ (b : BookState). commit_done b.protocol) view,
      c.in_ok-reply.ensures.ports ∙ ap (λ (b : BookState). b.ports) view,
      made c.args.self.now c.self.inside.seats c.self.inside.record c.self.inside.texts seat c.step.new.member view
          c.step.new.self c.commit.new.self c.self.inside.texts (commit_of change) (commit_of change) refl
          c.step.ensures.keeper c.step.ensures.member c.step.ensures.before c.step.ensures.own,
    ))

pub returns-clause-stands : goal.returns-clause-stands
returns-clause-stands g c =
    let start = g.P.Pair.start in
    let r = c.self.inside.record in
    let seat = c.args.seat.now in
    let change = c.in-Some-read.checkpoint.now in
    let may = may g (goal.at.returns-clause-stands g c).In_ok-reply in
    let steps = c.self.inside.seats.steps in
    let turn = c.sealed_texts_make_their_guests.ensures.in_turn start steps c.self.invariant.0.legal c.self.invariant.1.made in
    let grown : c.step.new.self.steps ≡ steps ++ step seat.number (commit_of change) ∷ [] =
    ap (λ (x : Keeper). x.steps) c.step.ensures.keeper in
    let sees : c.step.new.member ≡ record { number = seat.number; steps = steps ++ step seat.number (commit_of change) ∷ [] } =
    c.step.ensures.member ∙ (λ i. record { number = seat.number; steps = grown i }) in
    let own : steps_by seat.number (steps ++ step seat.number (commit_of change) ∷ [])
    ≡ steps_by seat.number seat.steps ++ step seat.number (commit_of change) ∷ [] =
    subst
    (λ (m : Member). steps_by seat.number m.steps ≡ steps_by seat.number seat.steps ++ step seat.number (commit_of change) ∷ [])
    sees c.step.ensures.own in
    let ack : Ack = record { generation = c.in-Committed.generation; number = c.in-Committed.number } in
    let told = told g (goal.at.returns-clause-stands g c).In-Committed in
    let stands : is_earlier c.args.self.now change ≡ false → StandsAfterNext start change ack seat c.step.new.member =
    λ next.
    stands-by start steps r.protocol r.ports c.self.invariant.0 c.self.invariant.1 c.keep.ensures.record seat c.step.new.member change
    may.mine may.pair may.generation may.number may.some turn c.step.ensures.before own sees ack
    (answered ack r.protocol c.commit.new.self.protocol told) in
    rw c.in-Some-read.is stands

-- AN EARLIER ONE
told-again : (g : _) (c : After-last_ack g)
    → (replies.Again c.last_ack.result.generation c.last_ack.result.number, c.self.inside.record.protocol)
    ≡ again_done c.self.inside.record.protocol
told-again g c = search rules

pub returns-then-is_earlier-clause-done : goal.returns-then-is_earlier-clause-done
returns-then-is_earlier-clause-done g c =
    let change = c.in-Some-read.checkpoint.now in
    let seat = c.args.seat.now in
    let view = c.self.view_is in
    let earlier : is_earlier c.args.self.now change ≡ true = search rules in
    let now : BookState = book_state c.meet.new.self c.self.inside.record c.self.inside.texts in
    let told = told-again g (goal.at.returns-then-is_earlier-clause-done g c).After-last_ack in
    rw c.in-Some-read.is
    (subst (λ (t : Bool). AfterAgainOrNext t change c.last_ack.result c.args.self.now now seat c.meet.new.member) (sym earlier) (
      told ∙ ap (λ (b : BookState). again_done b.protocol) view,
      (λ i. book_state (c.meet.ensures.keeper i) c.self.inside.record c.self.inside.texts) ∙ view,
      shown c.args.self.now c.self.inside.seats c.self.inside.record c.self.inside.texts seat c.meet.new.member view
          c.meet.ensures.member c.meet.ensures.before c.meet.ensures.own,
    ))

pub returns-then-is_earlier-clause-again : goal.returns-then-is_earlier-clause-again
returns-then-is_earlier-clause-again g c =
    let start = g.P.Pair.start in
    let r = c.self.inside.record in
    let seat = c.args.seat.now in
    let change = c.in-Some-read.checkpoint.now in
    let book = book_state c.self.inside.seats r c.self.inside.texts in
    let earlier : is_earlier book change ≡ true = search rules in
    let live = commit-live start book seat.number change (search rules) in
    let told = told-again g (goal.at.returns-then-is_earlier-clause-again g c).After-last_ack in
    rw c.in-Some-read.is
    (λ e.
    stands-again start c.self.inside.seats.steps r.protocol r.ports c.self.invariant.0 c.keep.ensures.record seat c.meet.new.member live.0
    live.1 (some-committed book change earlier) c.meet.ensures.before c.meet.ensures.own c.meet.ensures.member c.last_ack.result
    (answered-again c.last_ack.result r.protocol r.protocol told))
