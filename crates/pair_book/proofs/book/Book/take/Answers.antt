use Rattle.std.proofs.Common.{◌≡◌, ℕ, List, [], ◌∷◌, ◌++◌, ap, sym, ◌∙◌, subst, drop, length, refl, Option}
use Rattle.std.specs.Prelude.{slice_get}
use Rattle.frame_ports.specs.Lands.{list_of}
use Rattle.pair_history.specs.Entries.{Frame, Entry, Took}
use Rattle.pair_record.specs.declared.event.Reply.TheVariants as replies
use Rattle.pair_record.specs.Protocol.{Outcome, Record, take_done}
use Rattle.pair_record.specs.Record.{given, ports_after_take}
use Rattle.growing_history.specs.Steps.{Added, step}
use Rattle.growing_history.specs.Views.{Keeper}
use Rattle.pair_book.specs.Calls.{client_of}
use Rattle.pair_book.specs.internal.{Committed.KeepsCommitted, Tie.IsTied}
use Rattle.pair_book.proofs.{Calls.made, ClientTies.{took-gained, took-tied}, CommittedTies.took-keeps, TextLaws.texts-added}
use Rattle.pair_book.proofs.book.Book.take.Goals.{In_ok-is_some}
use Rattle.pair_book.proofs.book.Book.take.Goals as goal

is-taken : (g : _) (c : In_ok-is_some g) → c.take.new.self.protocol
    ≡ (take_done c.self.inside.record.ports.boxes c.self.inside.record.protocol (client_of c.args.seat.now.number)).1
is-taken g c =
    let r = c.self.inside.record in
    ap (λ (o : Outcome). o.1) c.in_ok-is_some.ensures.done
    ∙ ap (λ (n : ℕ). (take_done r.ports.boxes r.protocol n).1) c.client_number-client.ensures.number

ports-are : (g : _) (c : In_ok-is_some g) → c.take.new.self.ports
    ≡ ports_after_take c.self.inside.record.ports (client_of c.args.seat.now.number)
ports-are g c =
    c.in_ok-is_some.ensures.ports
    ∙ ap (λ (n : ℕ). ports_after_take c.self.inside.record.ports n) c.client_number-client.ensures.number

-- the entry that tells of it
told : (g : _) (c : In_ok-is_some g) → drop c.len-before.result c.take.new.self.protocol.journal.history
    ≡ Took (client_of c.args.seat.now.number) (slice_get (list_of c.self.inside.record.ports.boxes (client_of c.args.seat.now.number)) 0) ∷ []
told g c =
    let now = c.take.new.self in
    took-gained c.self.invariant.0 c.args.seat.now.number c.requires.client (is-taken g c) (ports-are g c) c.len-before.result
    now.protocol.journal.history (c.len-before.ensures ∙ ap (λ (es : List Entry). length es) c.history.ensures) refl

pub tell-requires-clause-tied : goal.tell-requires-clause-tied
tell-requires-clause-tied g c =
    let at = (goal.at.tell-requires-clause-tied g c).In_ok-is_some in
    let steps = c.self.inside.seats.steps in
    let now = c.take.new.self in
    let by = c.args.seat.now.number in
    subst (λ (es : List Entry). IsTied g.P.Pair.start (steps ++ step by (Added es) ∷ []) now.protocol now.ports) (sym (told g at))
    (took-tied c.self.invariant.0 by c.requires.client (is-taken g at) (ports-are g at))

pub tell-requires-clause-committed : goal.tell-requires-clause-committed
tell-requires-clause-committed g c =
    let at = (goal.at.tell-requires-clause-committed g c).In_ok-is_some in
    let steps = c.self.inside.seats.steps in
    let now = c.take.new.self in
    let by = c.args.seat.now.number in
    subst (λ (es : List Entry). KeepsCommitted g.P.Pair.start (steps ++ step by (Added es) ∷ []) now.protocol now.ports) (sym (told g at))
    (took-keeps c.self.invariant.1 by (client_of by) (is-taken g at) (ports-are g at))

pub invariant_of-self-2 : goal.invariant_of-self-2
invariant_of-self-2 g c =
    let now = c.take.new.self.protocol in
    let done = is-taken g (goal.at.invariant_of-self-2 g c).In_ok-is_some in (
      c.tell.ensures.tied,
      c.tell.ensures.committed,
      texts-added c.self.invariant.2 c.args.seat.now.number (drop c.len-before.result now.journal.history)
          (ap (λ (k : Keeper). k.steps) c.tell.ensures.seats) (ap (λ (y : Record). y.generation) done) (ap (λ (y : Record). y.window) done),
    )

pub returns-clause-step : goal.returns-clause-step
returns-clause-step g c =
    let at = (goal.at.returns-clause-step g c).In_ok-is_some in
    let r = c.self.inside.record in
    let d = client_of c.args.seat.now.number in
    let frame : Option Frame = given c.in_ok-is_some.is_some c.take.new.into in
    let box : Option Frame = slice_get (list_of r.ports.boxes d) 0 in
    let reply : replies.Took frame ≡ replies.Took box =
    ap (λ (o : Outcome). o.0) c.in_ok-is_some.ensures.done
    ∙ ap (λ (n : ℕ). replies.Took (slice_get (list_of r.ports.boxes n) 0)) c.client_number-client.ensures.number in
    let same : box ≡ frame = cc in
    made c.args.self.now c.self.inside.seats r c.self.inside.texts c.args.seat.now c.tell.new.member c.self.view_is
    c.tell.new.seats c.take.new.self c.self.inside.texts
    (Added (drop c.len-before.result c.take.new.self.protocol.journal.history)) (Added (Took d frame ∷ []))
    (ap Added (told g at) ∙ ap (λ (o : Option Frame). Added (Took d o ∷ [])) same)
    c.tell.ensures.seats c.tell.ensures.member c.tell.ensures.before c.tell.ensures.own
