-- What each call of a client keeps of the tie.
use Rattle.std.proofs.Common.{◌≡◌, ℕ, ◌-◌, ◌≤◌, List, [], ◌∷◌, ◌++◌, length, drop, refl, sym, ap, subst, arith, Bool, true, Option, inl, inr}
use Rattle.std.proofs.lemmas.List.{length-set}
use Rattle.std.proofs.lemmas.Bool.Decides.{nat_tests}
use Rattle.std.specs.Prelude.{slice_get, not, nat_le}
use Rattle.frame_ports.specs.{Addresses.{IsFrame}, Lands.{list_of}, Limits.{inbox_frames, number_limit}, Ports.{PortsState, IsClient, after_delivery, inbox_of}}
use Rattle.pair_history.specs.Entries.{Frame, Entry, Delivered, Refused, Took}
use Rattle.pair_history.specs.HistoryState.{HistoryState}
use Rattle.pair_record.specs.Journal.{with_history}
use Rattle.pair_record.specs.declared.event.Refusal.{Refusal}
use Rattle.pair_record.specs.declared.event.Refusal.TheVariants.{NoClient, BadFrame, Exhausted, Full, NoMemory}
use Rattle.pair_record.specs.Protocol.{Record, Row, deliver_done, take_done, first_refusal, is_among, is_bad_length, exhausts, entry_refusals}
use Rattle.pair_record.specs.Protocol.{take_refusals, deliver_refusals, RefusesDelivery, Refuses}
use Rattle.pair_record.specs.Record.{ports_after_take}
use Rattle.pair_record.specs.laws.Clients.{take_accords, deliver_accords, full_accords}
use Rattle.growing_history.specs.Steps.{Step, step, Added}
use Rattle.growing_history.specs.LogState.{client_seat, state_at}
use Rattle.pair_book.specs.Calls.{IsClientSeat, client_of, IsWhy, IsWhyDelivery}
use Rattle.pair_book.specs.internal.{Tie.IsTied}
use Rattle.pair_book.proofs.{Ties.{added-tied, gained, tied-as, tied-guests, tied-still}, Waits.delivered-waiting}

-- a client's seat is that of a client of the ports
pub is_client_of : (start : HistoryState) (steps : List Step) (r : Record) (p : PortsState) (n : ℕ) → IsTied start steps r p
    → IsClientSeat start n → IsClient p (client_of n)
is_client_of start steps r p n t seat = let same = t.clients in (omega (arith, seat.0), omega (arith, seat.0, seat.1, same))

-- so it has a box and an inbox
pub is-among : (p : PortsState) (n : ℕ) → IsClient p n → is_among n (length p.boxes) ≡ true
is-among p n h = grind (arith, nat_tests)

pub its-seat : (start : HistoryState) (n : ℕ) → IsClientSeat start n → n ≡ client_seat (client_of n)
its-seat start n seat = omega (arith, seat.0)

-- WHY ONE IS REFUSED: a client's seat is that of a client, so the tables begin behind that row

pub take-rows : (word_full : Bool) (r : Record) (p : PortsState) (n : ℕ) → IsClient p n
    → first_refusal (take_refusals word_full (length p.boxes) r n) ≡ first_refusal (entry_refusals word_full r)
take-rows word_full r p n h =
    ap (λ (t : Bool). first_refusal ((not t, NoClient) ∷ entry_refusals word_full r)) (is-among p n h)

pub deliver-rows : (word_full : Bool) (r : Record) (p : PortsState) (n : ℕ) (bytes : List ℕ) → IsClient p n
    → first_refusal (deliver_refusals word_full (length p.boxes) (inbox_of p n) p.next r n bytes)
    ≡ first_refusal ((is_bad_length (length bytes), BadFrame) ∷ (exhausts r 1, Exhausted) ∷ (word_full, Exhausted)
    ∷ (nat_le inbox_frames (length (inbox_of p n)), Full) ∷ (nat_le number_limit p.next, Exhausted) ∷ [])
deliver-rows word_full r p n bytes h =
    ap
    (λ (t : Bool). first_refusal ((not t, NoClient) ∷ (is_bad_length (length bytes), BadFrame) ∷ (exhausts r 1, Exhausted)
    ∷ (word_full, Exhausted) ∷ (nat_le inbox_frames (length (inbox_of p n)), Full) ∷ (nat_le number_limit p.next, Exhausted) ∷ []))
    (is-among p n h)

pub is-why-delivery : (rows : List Row) (why : Refusal) → RefusesDelivery rows why → IsWhyDelivery (first_refusal rows) why
is-why-delivery rows (NoMemory w) (inl none) = subst (λ (o : Option Refusal). IsWhyDelivery o (NoMemory w)) (sym none) refl
is-why-delivery rows (NoMemory w) (inr full) = subst (λ (o : Option Refusal). IsWhyDelivery o (NoMemory w)) (sym full) (inr refl)
is-why-delivery rows Full e = subst (λ (o : Option Refusal). IsWhyDelivery o Full) (sym e) (inl refl)
is-why-delivery rows other e = subst (λ (o : Option Refusal). IsWhyDelivery o other) (sym e) refl

pub is-why : (rows : List Row) (wants : Type 0) (why : Refusal) → Refuses rows wants why → IsWhy (first_refusal rows) why
is-why rows wants (NoMemory w) h = subst (λ (o : Option Refusal). IsWhy o (NoMemory w)) (sym h.0) refl
is-why rows wants other e = subst (λ (o : Option Refusal). IsWhy o other) (sym e) refl

-- TAKE
module _ {start : HistoryState} {steps : List Step} {r now : Record} {p q : PortsState} (t : IsTied start steps r p) (by : ℕ)
    (seat : IsClientSeat start by)
    (is : now ≡ (take_done p.boxes r (client_of by)).1) (ports : q ≡ ports_after_take p (client_of by)) where
  abbrev c : ℕ
  c = client_of by

  abbrev box : List Frame
  box = list_of p.boxes c

  abbrev pub took_entry : Entry
  took_entry = Took c (slice_get box 0)

  pub took-gained : (n : ℕ) (h : List Entry) → n ≡ length r.journal.history → h ≡ now.journal.history → drop n h ≡ took_entry ∷ []
  took-gained n h len same = gained n h r now (took_entry ∷ []) len same is

  pub took-tied : IsTied start (steps ++ step by (Added (took_entry ∷ [])) ∷ []) now q
  took-tied =
      let high = is_client_of start steps r p by t seat in
      let boxes = length-set p.boxes (c - 1) (drop 1 box) in
      let q' = ports_after_take p c in
      tied-as is ports
      (added-tied start steps r p q' t by (took_entry ∷ []) (its-seat start by seat, tt) (λ none. (tt, tt)) boxes
      (tied-still start steps r p q' t (Added (took_entry ∷ [])) (tt, tt) refl refl boxes)
      (λ a. take_accords start r p a c high.0 high.1))

-- DELIVER, and at a full inbox
module _ {start : HistoryState} {steps : List Step} {r : Record} {p : PortsState} (t : IsTied start steps r p) (by : ℕ)
    (seat : IsClientSeat start by) (bytes : List ℕ) (frame : IsFrame (record { items = bytes })) where
  abbrev d : ℕ
  d = client_of by

  abbrev sent : Frame
  sent = record { items = bytes }

  module _ {now : Record} {q : PortsState} (is : now ≡ (deliver_done r d sent p.next).1) (ports : q ≡ after_delivery p d bytes) where
    abbrev delivered : Entry
    delivered = Delivered d sent p.next

    pub delivered-gained : (n : ℕ) (h : List Entry) → n ≡ length r.journal.history → h ≡ now.journal.history → drop n h ≡ delivered ∷ []
    delivered-gained n h len same = gained n h r now (delivered ∷ []) len same is

    pub delivered-tied : IsTied start (steps ++ step by (Added (delivered ∷ [])) ∷ []) now q
    delivered-tied =
        let high = is_client_of start steps r p by t seat in
        tied-as is ports
        (added-tied start steps r p (after_delivery p d bytes) t by (delivered ∷ []) (its-seat start by seat, tt) (λ none. (tt, tt)) refl
        (delivered-waiting (state_at start steps) p t.waits (tied-guests start steps r p t) d high.0 high.1 bytes)
        (λ a. deliver_accords start r p a d high.0 high.1 bytes frame))

  module _ {now : Record} {q : PortsState} (full : inbox_frames ≤ length (list_of p.inboxes d))
      (is : now ≡ record r { journal = with_history r.journal (Refused d sent ∷ []) }) (ports : q ≡ p) where
    abbrev refused : Entry
    refused = Refused d sent

    pub refused-gained : (n : ℕ) (h : List Entry) → n ≡ length r.journal.history → h ≡ now.journal.history → drop n h ≡ refused ∷ []
    refused-gained n h len same = gained n h r now (refused ∷ []) len same is

    pub refused-tied : IsTied start (steps ++ step by (Added (refused ∷ [])) ∷ []) now q
    refused-tied =
        let high = is_client_of start steps r p by t seat in
        tied-as is ports
        (added-tied start steps r p p t by (refused ∷ []) (its-seat start by seat, tt) (λ none. (tt, tt)) refl
        (tied-still start steps r p p t (Added (refused ∷ [])) (tt, tt) refl refl refl)
        (λ a. full_accords start r p a d high.0 high.1 bytes frame full))
