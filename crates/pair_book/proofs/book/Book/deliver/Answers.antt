use Rattle.std.proofs.Common.{◌≡◌, ℕ, ◌≤◌, List, [], ◌∷◌, ◌++◌, ap, sym, ◌∙◌, drop, length, subst, Option, refl, false}
use Rattle.std.specs.Prelude.{nat_le}
use Rattle.frame_ports.specs.{Addresses.IsFrame, Lands.list_of, Limits.{inbox_frames, number_limit}, Ports.{IsClient, after_delivery, inbox_of}}
use Rattle.pair_history.specs.Entries.{Frame, Entry, Delivered, Refused}
use Rattle.pair_record.specs.declared.event.Refusal.{Refusal}
use Rattle.pair_record.specs.declared.event.Refusal.TheVariants.{BadFrame, Exhausted, Full}
use Rattle.pair_record.specs.declared.event.Reply.TheVariants as replies
use Rattle.pair_record.specs.Journal.{with_history}
use Rattle.pair_record.specs.Protocol.{Outcome, Record, Row, first_refusal, deliver_refusals, deliver_done, is_bad_length, exhausts}
use Rattle.pair_record.specs.laws.Tables.{delivery_free, delivery_full}
use Rattle.growing_history.specs.Steps.{Added, step}
use Rattle.growing_history.specs.Views.{Keeper}
use Rattle.pair_book.specs.{Books.BookState, Calls.{client_of, deliver_rows, IsWhyDelivery}}
use Rattle.pair_book.specs.internal.{Committed.KeepsCommitted, Tie.IsTied}
use Rattle.pair_book.proofs.{Calls.made, CommittedTies.{delivered-keeps, refused-keeps}, TextLaws.texts-added}
use Rattle.pair_book.proofs.ClientTies.{is_client_of, deliver-rows, is-why-delivery, delivered-gained, delivered-tied, refused-gained, refused-tied}
use Rattle.pair_book.proofs.book.Book.deliver.Goals.{After-deliver, In-Ok, In-Err-Full}
use Rattle.pair_book.proofs.book.Book.deliver.Goals as goal

-- the record's table is the book's
abbrev table : (g : _) → After-deliver g → List Row
table g c =
    let r = c.self.inside.record in
    let client = c.client_number-client.result in
    deliver_refusals c.is_word_full-word_full.result (length r.ports.boxes) (inbox_of r.ports client) r.ports.next r.protocol client
    c.args.bytes.now

rows : (g : _) (c : After-deliver g)
    → first_refusal (table g c) ≡ first_refusal (deliver_rows c.args.self.now (client_of c.args.seat.now.number) c.args.bytes.now)
rows g c =
    let r = c.self.inside.record in
    let bytes = c.args.bytes.now in
    let number = c.client_number-client.ensures.number in
    let word = c.is_word_full-word_full.ensures in
    let view = c.self.view_is in
    deliver-rows c.is_word_full-word_full.result r.protocol r.ports c.client_number-client.result bytes
    (subst (λ (n : ℕ). IsClient r.ports n) (sym number)
    (is_client_of g.P.Pair.start c.self.inside.seats.steps r.protocol r.ports c.args.seat.now.number c.self.invariant.0 c.requires.client))
    ∙ (λ i. first_refusal ((is_bad_length (length bytes), BadFrame) ∷ (exhausts (view i).protocol 1, Exhausted) ∷ (word i, Exhausted)
    ∷ (nat_le inbox_frames (length (inbox_of (view i).ports (number i))), Full) ∷ (nat_le number_limit (view i).ports.next, Exhausted) ∷ []))

-- A FRAME THAT WAS DELIVERED
frame : (g : _) (c : In-Ok g) → IsFrame (record { items = c.args.bytes.now })
frame g c =
    let r = c.self.inside.record in
    let client = c.client_number-client.result in
    (delivery_free c.is_word_full-word_full.result (length r.ports.boxes) (list_of r.ports.inboxes client) r.ports.next r.protocol client
    c.args.bytes.now c.in-Ok.ensures.free).2

is-delivered : (g : _) (c : In-Ok g) → c.deliver.new.self.protocol
    ≡ (deliver_done c.self.inside.record.protocol (client_of c.args.seat.now.number) (record { items = c.args.bytes.now })
    c.self.inside.record.ports.next).1
is-delivered g c =
    ap (λ (o : Outcome). o.1) c.in-Ok.ensures.done
    ∙ ap (λ (n : ℕ). (deliver_done c.self.inside.record.protocol n (record { items = c.args.bytes.now }) c.self.inside.record.ports.next).1)
    c.client_number-client.ensures.number

ports-are : (g : _) (c : In-Ok g) → c.deliver.new.self.ports
    ≡ after_delivery c.self.inside.record.ports (client_of c.args.seat.now.number) c.args.bytes.now
ports-are g c =
    c.in-Ok.ensures.ports
    ∙ ap (λ (n : ℕ). after_delivery c.self.inside.record.ports n c.args.bytes.now) c.client_number-client.ensures.number

told : (g : _) (c : In-Ok g) → drop c.len-before.result c.deliver.new.self.protocol.journal.history
    ≡ Delivered (client_of c.args.seat.now.number) (record { items = c.args.bytes.now }) c.self.inside.record.ports.next ∷ []
told g c =
    let now = c.deliver.new.self in
    delivered-gained c.self.invariant.0 c.args.seat.now.number c.requires.client c.args.bytes.now (frame g c) (is-delivered g c)
    (ports-are g c) c.len-before.result now.protocol.journal.history
    (c.len-before.ensures ∙ ap (λ (es : List Entry). length es) c.history.ensures) refl

pub tell-requires-clause-tied : goal.tell-requires-clause-tied
tell-requires-clause-tied g c =
    let at = (goal.at.tell-requires-clause-tied g c).In-Ok in
    let steps = c.self.inside.seats.steps in
    let now = c.deliver.new.self in
    let by = c.args.seat.now.number in
    subst (λ (es : List Entry). IsTied g.P.Pair.start (steps ++ step by (Added es) ∷ []) now.protocol now.ports) (sym (told g at))
    (delivered-tied c.self.invariant.0 by c.requires.client c.args.bytes.now (frame g at) (is-delivered g at) (ports-are g at))

pub tell-requires-clause-committed : goal.tell-requires-clause-committed
tell-requires-clause-committed g c =
    let at = (goal.at.tell-requires-clause-committed g c).In-Ok in
    let steps = c.self.inside.seats.steps in
    let now = c.deliver.new.self in
    let by = c.args.seat.now.number in
    subst (λ (es : List Entry). KeepsCommitted g.P.Pair.start (steps ++ step by (Added es) ∷ []) now.protocol now.ports) (sym (told g at))
    (delivered-keeps c.self.invariant.1 by (client_of by) (record { items = c.args.bytes.now }) (is-delivered g at) (ports-are g at))

pub invariant_of-self : goal.invariant_of-self
invariant_of-self g c =
    let now = c.deliver.new.self.protocol in
    let done = is-delivered g (goal.at.invariant_of-self g c).In-Ok in (
      c.tell.ensures.tied,
      c.tell.ensures.committed,
      texts-added c.self.invariant.2 c.args.seat.now.number (drop c.len-before.result now.journal.history)
          (ap (λ (k : Keeper). k.steps) c.tell.ensures.seats) (ap (λ (y : Record). y.generation) done) (ap (λ (y : Record). y.window) done),
    )

pub returns-in-Ok-clause-step : goal.returns-in-Ok-clause-step
returns-in-Ok-clause-step g c =
    let at = (goal.at.returns-in-Ok-clause-step g c).In-Ok in
    let r = c.self.inside.record in
    let f : Frame = record { items = c.args.bytes.now } in
    let d = client_of c.args.seat.now.number in
    let reply : replies.Delivered c.in-Ok.number ≡ replies.Delivered r.ports.next = ap (λ (o : Outcome). o.0) c.in-Ok.ensures.done in
    let next : c.in-Ok.number ≡ r.ports.next = cc in
    made c.args.self.now c.self.inside.seats r c.self.inside.texts c.args.seat.now c.tell.new.member c.self.view_is
    c.tell.new.seats c.deliver.new.self c.self.inside.texts
    (Added (drop c.len-before.result c.deliver.new.self.protocol.journal.history)) (Added (Delivered d f c.in-Ok.number ∷ []))
    (ap Added (told g at) ∙ ap (λ (n : ℕ). Added (Delivered d f n ∷ [])) (sym next))
    c.tell.ensures.seats c.tell.ensures.member c.tell.ensures.before c.tell.ensures.own

pub returns-in-Ok-clause-free : goal.returns-in-Ok-clause-free
returns-in-Ok-clause-free g c = sym (rows g (goal.at.returns-in-Ok-clause-free g c).After-deliver) ∙ c.in-Ok.ensures.free

-- A FULL INBOX, which is told
full-rows : (g : _) (c : In-Err-Full g)
    → (1 ≤ c.client_number-client.result) × (c.client_number-client.result ≤ length c.self.inside.record.ports.boxes)
    × IsFrame (record { items = c.args.bytes.now }) × (c.is_word_full-word_full.result ≡ false)
    × (inbox_frames ≤ length (list_of c.self.inside.record.ports.inboxes c.client_number-client.result))
full-rows g c =
    let r = c.self.inside.record in
    let client = c.client_number-client.result in
    delivery_full c.is_word_full-word_full.result (length r.ports.boxes) (list_of r.ports.inboxes client) r.ports.next r.protocol client
    c.args.bytes.now (rw c.in-Err-Full.field-0-is at c.in-Err-Full.ensures.why)

is-full : (g : _) (c : In-Err-Full g)
    → inbox_frames ≤ length (list_of c.self.inside.record.ports.inboxes (client_of c.args.seat.now.number))
is-full g c =
    subst (λ (n : ℕ). inbox_frames ≤ length (list_of c.self.inside.record.ports.inboxes n)) c.client_number-client.ensures.number
    (full-rows g c).4

refusal-told : (g : _) (c : In-Err-Full g) → c.deliver.new.self.protocol
    ≡ record c.self.inside.record.protocol {
      journal = with_history c.self.inside.record.protocol.journal
          (Refused (client_of c.args.seat.now.number) (record { items = c.args.bytes.now }) ∷ []);
    }
refusal-told g c =
    let r = c.self.inside.record.protocol in
    ap (λ (o : Outcome). o.1) (rw c.in-Err-Full.field-0-is at c.in-Err-Full.ensures.refused)
    ∙ ap (λ (n : ℕ). record r { journal = with_history r.journal (Refused n (record { items = c.args.bytes.now }) ∷ []) })
    c.client_number-client.ensures.number

told-full : (g : _) (c : In-Err-Full g) → drop c.len-before.result c.deliver.new.self.protocol.journal.history
    ≡ Refused (client_of c.args.seat.now.number) (record { items = c.args.bytes.now }) ∷ []
told-full g c =
    let now = c.deliver.new.self in
    refused-gained c.self.invariant.0 c.args.seat.now.number c.requires.client c.args.bytes.now (full-rows g c).2 (is-full g c)
    (refusal-told g c) c.in-Err-Full.ensures.same c.len-before.result now.protocol.journal.history
    (c.len-before.ensures ∙ ap (λ (es : List Entry). length es) c.history.ensures) refl

pub tell-requires-in-Err-Full-clause-tied : goal.tell-requires-in-Err-Full-clause-tied
tell-requires-in-Err-Full-clause-tied g c =
    let at = (goal.at.tell-requires-in-Err-Full-clause-tied g c).In-Err-Full in
    let steps = c.self.inside.seats.steps in
    let now = c.deliver.new.self in
    let by = c.args.seat.now.number in
    subst (λ (es : List Entry). IsTied g.P.Pair.start (steps ++ step by (Added es) ∷ []) now.protocol now.ports) (sym (told-full g at))
    (refused-tied c.self.invariant.0 by c.requires.client c.args.bytes.now (full-rows g at).2 (is-full g at) (refusal-told g at)
    c.in-Err-Full.ensures.same)

pub tell-requires-in-Err-Full-clause-committed : goal.tell-requires-in-Err-Full-clause-committed
tell-requires-in-Err-Full-clause-committed g c =
    let at = (goal.at.tell-requires-in-Err-Full-clause-committed g c).In-Err-Full in
    let steps = c.self.inside.seats.steps in
    let now = c.deliver.new.self in
    let by = c.args.seat.now.number in
    subst (λ (es : List Entry). KeepsCommitted g.P.Pair.start (steps ++ step by (Added es) ∷ []) now.protocol now.ports) (sym (told-full g at))
    (refused-keeps c.self.invariant.1 by (client_of by) (record { items = c.args.bytes.now }) (refusal-told g at)
    c.in-Err-Full.ensures.same)

pub invariant_of-self-in-Err-Full : goal.invariant_of-self-in-Err-Full
invariant_of-self-in-Err-Full g c =
    let now = c.deliver.new.self.protocol in
    let done = refusal-told g (goal.at.invariant_of-self-in-Err-Full g c).In-Err-Full in (
      c.tell-in-Err-Full.ensures.tied,
      c.tell-in-Err-Full.ensures.committed,
      texts-added c.self.invariant.2 c.args.seat.now.number (drop c.len-before.result now.journal.history)
          (ap (λ (k : Keeper). k.steps) c.tell-in-Err-Full.ensures.seats)
          (ap (λ (y : Record). y.generation) done) (ap (λ (y : Record). y.window) done),
    )

pub returns-in-Err-Full-clause-why : goal.returns-in-Err-Full-clause-why
returns-in-Err-Full-clause-why g c =
    let at = (goal.at.returns-in-Err-Full-clause-why g c).After-deliver in
    subst (λ (o : Option Refusal). IsWhyDelivery o Full) (rows g at)
    (is-why-delivery (table g at) Full (rw c.in-Err-Full.field-0-is at c.in-Err-Full.ensures.why))

pub returns-in-Err-Full-clause-refused : goal.returns-in-Err-Full-clause-refused
returns-in-Err-Full-clause-refused g c =
    let at = (goal.at.returns-in-Err-Full-clause-refused g c).In-Err-Full in
    let f : Frame = record { items = c.args.bytes.now } in
    let d = client_of c.args.seat.now.number in (
      made c.args.self.now c.self.inside.seats c.self.inside.record c.self.inside.texts c.args.seat.now c.tell-in-Err-Full.new.member
          c.self.view_is c.tell-in-Err-Full.new.seats c.deliver.new.self c.self.inside.texts
          (Added (drop c.len-before.result c.deliver.new.self.protocol.journal.history)) (Added (Refused d f ∷ []))
          (ap Added (told-full g at)) c.tell-in-Err-Full.ensures.seats c.tell-in-Err-Full.ensures.member
          c.tell-in-Err-Full.ensures.before c.tell-in-Err-Full.ensures.own,
      refusal-told g at
          ∙ (λ i. record (c.self.view_is i).protocol { journal = with_history (c.self.view_is i).protocol.journal (Refused d f ∷ []) }),
      c.in-Err-Full.ensures.same ∙ ap (λ (b : BookState). b.ports) c.self.view_is,
    )
