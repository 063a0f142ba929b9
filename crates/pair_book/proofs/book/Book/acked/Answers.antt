use Rattle.std.proofs.Common.{rules, arith, ◌≡◌, ◌<◌, List, [], ◌∷◌, ◌++◌, drop, length, refl, sym, ap, ◌∙◌, subst}
use Rattle.std.proofs.lemmas.List.{length-append}
use Rattle.pair_history.specs.Entries.{Entry}
use Rattle.pair_record.specs.Protocol.{Outcome, Record, ack_done, let_go}
use Rattle.pair_history.specs.Landings.{landings}
use Rattle.growing_history.specs.Steps.{Added, step}
use Rattle.growing_history.specs.Views.{Keeper}
use Rattle.pair_book.specs.{Books.BookState, Failures.AddsAlone, Packets.TextsState}
use Rattle.pair_book.specs.internal.{Texts.HasTexts, Tie.{IsTied, book_state}}
use Rattle.pair_record.specs.laws.Tables.{acknowledge_free}
use Rattle.pair_book.proofs.Calls.{adds-some, adds-none}
use Rattle.pair_book.proofs.FailureTies.{landed_by, no-more, acked-gained, acked-tied, unmoved-tied}
use Rattle.pair_book.proofs.CommittedTies.{acked-keeps, unmoved-keeps}
use Rattle.pair_book.proofs.TextLaws.{texts-left, texts-added}
use Rattle.pair_book.proofs.book.Book.acked.Goals.{In_ok-count, After-drop_to}
use Rattle.pair_book.proofs.book.Book.acked.Goals as goal

below : (g : _) (c : In_ok-count g) → c.args.ack.number < c.self.inside.record.protocol.window.to_commit
below g c =
    let r = c.self.inside.record in
    (acknowledge_free _ r.ports.boxes r.protocol (record { generation = c.args.ack.generation; number = c.args.ack.number })
    c.in_ok-count.ensures.free).1

is-acked : (g : _) (c : In_ok-count g) → c.acknowledge.new.self.protocol
    ≡ (ack_done c.self.inside.record.ports.boxes c.self.inside.record.protocol c.args.ack.number).1
is-acked g c = ap (λ (o : Outcome). o.1) c.in_ok-count.ensures.done

-- what has landed
grown : (g : _) (c : In_ok-count g) → c.acknowledge.new.self.protocol.journal.history
    ≡ c.self.inside.record.protocol.journal.history
    ++ landed_by c.self.inside.record.ports.boxes c.self.inside.record.protocol c.args.ack.number
grown g c = ap (λ (x : Record). x.journal.history) (is-acked g c)

told : (g : _) (c : In_ok-count g) → drop c.len-before.result c.acknowledge.new.self.protocol.journal.history
    ≡ landed_by c.self.inside.record.ports.boxes c.self.inside.record.protocol c.args.ack.number
told g c =
    let now = c.acknowledge.new.self in
    acked-gained c.self.invariant.0 c.args.ack.number c.keep.ensures.record (below g c) (is-acked g c) c.in_ok-count.ensures.ports
    c.len-before.result now.protocol.journal.history (c.len-before.ensures ∙ ap (λ (es : List Entry). length es) c.history.ensures) refl

pub tell_alone-requires-clause-tied : goal.tell_alone-requires-clause-tied
tell_alone-requires-clause-tied g c =
    let at = (goal.at.tell_alone-requires-clause-tied g c).In_ok-count in
    let steps = c.self.inside.seats.steps in
    let now = c.acknowledge.new.self in
    subst (λ (es : List Entry). IsTied g.P.Pair.start (steps ++ step 0 (Added es) ∷ []) now.protocol now.ports) (sym (told g at))
    (acked-tied c.self.invariant.0 c.args.ack.number c.keep.ensures.record (below g at) (is-acked g at) c.in_ok-count.ensures.ports)

pub tell_alone-requires-clause-committed : goal.tell_alone-requires-clause-committed
tell_alone-requires-clause-committed g c =
    let at = (goal.at.tell_alone-requires-clause-committed g c).In_ok-count in
    let now = c.acknowledge.new.self in
    acked-keeps c.self.invariant.1 0 c.args.ack.number c.keep.ensures.record c.keep.ensures.numbers c.keep.ensures.clients (below g at)
    (is-acked g at) c.in_ok-count.ensures.ports (drop c.len-before.result now.protocol.journal.history)

-- the texts that are left
left : (g : _) (c : After-drop_to g) (is : c.acknowledge.new.self.protocol
    ≡ (ack_done c.self.inside.record.ports.boxes c.self.inside.record.protocol c.args.ack.number).1)
    → c.args.ack.number < c.self.inside.record.protocol.window.to_commit
    → HasTexts g.P.Pair.start c.self.inside.seats.steps c.acknowledge.new.self.protocol c.drop_to.new.self.packets
left g c is low =
    texts-left c.self.invariant.2 c.keep.ensures.record c.args.ack.number low (ap (λ (x : Record). x.generation) is)
    (ap (λ (x : Record). x.window) is) (ap (λ (t : TextsState). t.packets) c.drop_to.ensures)

pub invariant_of-self-else-len-before : goal.invariant_of-self-else-len-before
invariant_of-self-else-len-before g c =
    let at = (goal.at.invariant_of-self-else-len-before g c).In_ok-count in
    let r = c.self.inside.record in
    let now = c.acknowledge.new.self in
    let n = c.args.ack.number in
    let none : landed_by r.ports.boxes r.protocol n ≡ [] =
    no-more r.protocol.journal.history now.protocol.journal.history (landed_by r.ports.boxes r.protocol n) (grown g at)
    (search (rules, arith, c.if-len-before.false)) in (
      unmoved-tied c.self.invariant.0 n c.keep.ensures.record (below g at) (is-acked g at) c.in_ok-count.ensures.ports none,
      unmoved-keeps c.self.invariant.1 0 n c.keep.ensures.record c.keep.ensures.numbers c.keep.ensures.clients (below g at) (is-acked g at)
          c.in_ok-count.ensures.ports,
      left g (goal.at.invariant_of-self-else-len-before g c).After-drop_to (is-acked g at) (below g at),
    )

pub invariant_of-self-then-len-before : goal.invariant_of-self-then-len-before
invariant_of-self-then-len-before g c =
    let at = (goal.at.invariant_of-self-then-len-before g c).In_ok-count in
    let now = c.acknowledge.new.self in (
      c.tell_alone.ensures.tied,
      c.tell_alone.ensures.committed,
      texts-added (left g (goal.at.invariant_of-self-then-len-before g c).After-drop_to (is-acked g at) (below g at)) 0
          (drop c.len-before.result now.protocol.journal.history) (ap (λ (k : Keeper). k.steps) c.tell_alone.ensures.seats) refl refl,
    )

pub returns-then-len-before-clause-step : goal.returns-then-len-before-clause-step
returns-then-len-before-clause-step g c =
    let at = (goal.at.returns-then-len-before-clause-step g c).In_ok-count in
    let r = c.self.inside.record in
    let n = c.args.ack.number in
    let b : BookState = book_state c.self.inside.seats r c.self.inside.texts in
    let new : BookState = book_state c.tell_alone.new.seats c.acknowledge.new.self c.drop_to.new.self in
    let more : length r.protocol.journal.history < length c.acknowledge.new.self.protocol.journal.history =
    search (rules, arith, c.if-len-before.true) in
    let long = ap (λ (es : List Entry). length es) (grown g at) in
    let parts = length-append r.protocol.journal.history (landed_by r.ports.boxes r.protocol n) in
    subst (λ (x : BookState). AddsAlone (landings x.ports.boxes (let_go x.ports.boxes x.protocol n)) x new) c.self.view_is
    (adds-some (landed_by r.ports.boxes r.protocol n) b new (omega (arith, more, long, parts))
    (record {
      steps =
          ap (λ (k : Keeper). k.steps) c.tell_alone.ensures.seats
          ∙ ap (λ (es : List Entry). c.self.inside.seats.steps ++ step 0 (Added es) ∷ []) (told g at);
      enrolled = ap (λ (k : Keeper). k.enrolled) c.tell_alone.ensures.seats;
    }))

pub returns-else-len-before-clause-step : goal.returns-else-len-before-clause-step
returns-else-len-before-clause-step g c =
    let at = (goal.at.returns-else-len-before-clause-step g c).In_ok-count in
    let r = c.self.inside.record in
    let n = c.args.ack.number in
    let b : BookState = book_state c.self.inside.seats r c.self.inside.texts in
    let new : BookState = book_state c.self.inside.seats c.acknowledge.new.self c.drop_to.new.self in
    let none : landed_by r.ports.boxes r.protocol n ≡ [] =
    no-more r.protocol.journal.history c.acknowledge.new.self.protocol.journal.history (landed_by r.ports.boxes r.protocol n) (grown g at)
    (search (rules, arith, c.if-len-before.false)) in
    subst (λ (x : BookState). AddsAlone (landings x.ports.boxes (let_go x.ports.boxes x.protocol n)) x new) c.self.view_is
    (adds-none (landed_by r.ports.boxes r.protocol n) b new none refl refl)
