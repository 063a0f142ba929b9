-- From what a call of the record ensures of its result, to the invariant of the world and to what an event answers.
use Rattle.std.proofs.Common.{◌≡◌, ◌∙◌, refl, sym, ap, subst, List, Some, Result, Ok, Err, OnErr, inl, inr}
use Rattle.std.specs.Prelude.{IfOk, OnOk}
use Rattle.memory_wanted.specs.{Wanted.wanted, declared.MemoryWanted.MemoryWanted}
use Rattle.frame_ports.specs.Ports.{PortsState}
use Rattle.pair_record.specs.{declared.event.Reply.Reply, Protocol.{Record, Outcome, Row, first_refusal, RefusesDelivery}, Record.RecordState}
use Rattle.pair_record.specs.{declared.event.Refusal.Refusal, declared.event.Refusal.TheVariants.NoMemory}
use Rattle.pair_record.specs.{declared.event.Event.Event, Protocol.outcome}
use Rattle.pair_record.specs.declared.event.Reply.TheVariants as replies
use Rattle.pair_core.specs.{Answering.{AnswersEvent, MayWantMemory}, Invariant.Holds, Lines.{got, lines_after}, Pair.Pair}

-- on either result
pub on_ok : {A : Type 0} (o : Result A MemoryWanted) (P : Type 0) → P → OnOk o P
on_ok (Ok x) P p = p
on_ok (Err e) P p = tt

pub on_err : {A : Type 0} (o : Result A MemoryWanted) (P : Type 0) → P → OnErr o P
on_err (Ok x) P p = tt
on_err (Err e) P p = p

pub on_err_so : {A : Type 0} (o : Result A MemoryWanted) (P Q : Type 0) → (P → Q) → OnErr o P → OnErr o Q
on_err_so (Ok x) P Q f p = tt
on_err_so (Err e) P Q f p = f p

-- a refusal of a delivery that isn't for want of memory is of the first row that holds
pub named_delivery : (rows : List Row) (why : Refusal) → ((m : MemoryWanted) → why ≡ NoMemory m → ⊥) → RefusesDelivery rows why
    → first_refusal rows ≡ Some why
named_delivery rows (NoMemory m) other h = absurd (other m refl)
named_delivery rows why other h = h

-- it is answered and leaves what the protocol says
pub answered_so : (o : Result Reply MemoryWanted) (r : Record) (done out : Outcome) → done ≡ out → IfOk o (λ reply. (reply, r) ≡ done)
    → IfOk o (λ reply. (reply, r) ≡ out)
answered_so (Ok x) r done out e k = k ∙ e
answered_so (Err x) r done out e k = tt

-- the invariant after a call that did all or nothing
pub after_call : (w : Pair) → Holds w → (s : RecordState) (o : Result Reply MemoryWanted) (done : Outcome) (ports : PortsState)
    → IfOk o (λ reply. (reply, s.protocol) ≡ done) → OnOk o (s.ports ≡ ports)
    → OnErr o ((s.protocol ≡ w.protocol.state) × (s.ports ≡ w.ports))
    → Holds (record w { protocol = record w.protocol { state = done.1 }; ports = ports }) → Holds (record w { protocol = record w.protocol { state = s.protocol }; ports = s.ports })
after_call w h s (Ok x) done ports k p e now =
    subst Holds (λ i. record w { protocol = record w.protocol { state = sym (ap (λ (q : Outcome). q.1) k) i }; ports = sym p i }) now
after_call w h s (Err x) done ports k p e now = subst Holds (λ i. record w { protocol = record w.protocol { state = sym e.0 i }; ports = sym e.1 i }) h

-- what an event did, as a reply
module _ (old new : Pair) (event : Event) (o : Result Reply MemoryWanted) (reply : Reply)
    (ok : IfOk o (λ r. reply ≡ r))
    (err : OnErr o (reply ≡ replies.Refused (NoMemory wanted))) where
  pub answers_by_outcome : IfOk o (λ r. (r, new.protocol.state)
      ≡ outcome old.start old.protocol.state (got old.protocol.lines event) event)
      → OnErr o (MayWantMemory old.protocol.state (outcome old.start old.protocol.state (got old.protocol.lines event) event))
      → IfOk o (λ r. new.protocol.lines ≡ lines_after old.protocol r) → OnErr o (new ≡ old)
      → AnswersEvent old.start old.protocol event reply new.protocol
  answers_by_outcome = by_result o ok err
    where
      by_result : (o : Result Reply MemoryWanted) → IfOk o (λ r. reply ≡ r) → OnErr o (reply ≡ replies.Refused (NoMemory wanted))
          → IfOk o (λ r. (r, new.protocol.state) ≡ outcome old.start old.protocol.state (got old.protocol.lines event) event)
          → OnErr o (MayWantMemory old.protocol.state (outcome old.start old.protocol.state (got old.protocol.lines event) event))
          → IfOk o (λ r. new.protocol.lines ≡ lines_after old.protocol r) → OnErr o (new ≡ old)
          → AnswersEvent old.start old.protocol event reply new.protocol
      by_result (Ok r) k e d m l f = (
        inl (ap (λ (x : Reply). (x, new.protocol.state)) k ∙ d),
        l ∙ ap (lines_after old.protocol) (sym k),
      )
      by_result (Err x) k e d m l f = (
        inr (m, e, ap (λ (w : Pair). w.protocol.state) f),
        ap (λ (w : Pair). w.protocol.lines) f ∙ ap (lines_after old.protocol) (sym e),
      )
