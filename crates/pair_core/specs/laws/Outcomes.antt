-- What the protocol answers: what an event looks at is what the world has, and its table of refusals decides.
use Rattle.std.proofs.Common.{rules, ◌≡◌, ℕ, ◌≤◌, List, [], ◌∷◌, length, refl, sym, ap, ◌∙◌, subst, arith, Bool, true, false, Option, None, Some, ◌⊎◌, inl, inr}
use Rattle.std.specs.Prelude.{slice_get, IfSome, IsSome, nat_le, not, ⊤}
use Rattle.memory_wanted.specs.declared.MemoryWanted.{MemoryWanted}
use Rattle.guest_rules.specs.Step.{next, sent}
use Rattle.frame_ports.specs.{Lands.list_of, Limits.{inbox_frames, number_limit}}
use Rattle.pair_history.specs.{Entries.Frame, HistoryState.inbox_of}
use Rattle.pair_record.specs.{declared.event.Event.{Event, TheVariants.{Cut, Admit, FailBackup}}, declared.event.Refusal.Refusal}
use Rattle.pair_record.specs.declared.event.Refusal.TheVariants.{Full, BadFrame, NoClient, Stopped, Exhausted, NoMemory}
use Rattle.pair_record.specs.declared.event.Packet.{Packet}
use Rattle.pair_core.specs.Invariant.{Holds}
use Rattle.pair_record.specs.Modes.{is_stopped}
use Rattle.pair_core.specs.Pair.{Pair, shown_state, live_state, AfterRefusal}
use Rattle.pair_record.specs.Protocol.{Record, Sight, Outcome, Row, first_refusal, or_else, unless, refused, exhausts, is_among, sight}
use Rattle.pair_record.specs.Protocol.{allowed, on_step, step_outcome, cut_refusals, cut_done, on_cut, Refuses, if_there}
use Rattle.pair_record.specs.Protocol.{on_fail_backup, fail_backup_refusals, fail_backup_done}
use Rattle.pair_record.specs.Protocol.{admit_refusals, admit_of, on_admit, is_bad_length, deliver_refusals}
use Rattle.pair_record.specs.{Protocol.{delivery_refused, deliver_done, on_deliver}, Record.owed_to}
use Rattle.pair_core.specs.Answering.{MayWantMemory}
use Rattle.pair_core.specs.laws.Consistent.{live_is, live_waiting, outbox_is}
use Rattle.pair_record.specs.laws.Tables.{client_range}
use Rattle.pair_record.specs.declared.event.Reply.TheVariants as replies

-- a table decides
module _ (r : Record) (rows : List Row) (done : Outcome) where
  pub refused_by_the_first : (why : Refusal) → first_refusal rows ≡ Some why → refused r why ≡ unless r rows done
  refused_by_the_first why e = ap (λ o. or_else o (refused r) done) (sym e)

  pub done_if_none_refuses : first_refusal rows ≡ None → done ≡ unless r rows done
  done_if_none_refuses e = ap (λ o. or_else o (refused r) done) (sym e)

  pub refused_if_one_refuses : (out : Outcome) (o : Option Refusal) → o ≡ first_refusal rows → unless r rows done ≡ out
      → IfSome o (λ why. refused r why ≡ out)
  refused_if_one_refuses out None e f = tt
  refused_if_one_refuses out (Some why) e f = refused_by_the_first why (sym e) ∙ f

-- AN EVENT BY A TABLE, as a call of the record answers it: these rows refuse it, or it is done so; it may want memory where `wants` holds
pub record ByTable (w : Pair) (packet : Option Packet) (event : Event) (rows : List Row) (wants : Type 0) (done : Outcome) : Type 0 where
  pub sees : unless w.protocol.state rows done ≡ allowed w.start w.protocol.state packet event
  pub may : wants → MayWantMemory w.protocol.state done

-- a refusal that isn't for want of memory is of the first row that holds
named : (rows : List Row) (wants : Type 0) (why : Refusal) → ((m : MemoryWanted) → why ≡ NoMemory m → ⊥) → Refuses rows wants why
    → first_refusal rows ≡ Some why
named rows wants (NoMemory m) other h = absurd (other m refl)
named rows wants why other h = h

module _ {w : Pair} {packet : Option Packet} {event : Event} {rows : List Row} {wants : Type 0} {done : Outcome}
    (t : ByTable w packet event rows wants done) where
  pub done_by_table : first_refusal rows ≡ None → done ≡ allowed w.start w.protocol.state packet event
  done_by_table free = done_if_none_refuses w.protocol.state rows done free ∙ t.sees

  pub refused_by_table : (why said : Refusal) (now : Record) → Refuses rows wants why → said ≡ why
      → ((m : MemoryWanted) → why ≡ NoMemory m → ⊥) → now ≡ w.protocol.state
      → (replies.Refused said, now) ≡ allowed w.start w.protocol.state packet event
  refused_by_table why said now h same other stays =
      (λ i. (replies.Refused (same i), stays i))
      ∙ refused_by_the_first w.protocol.state rows done why (named rows wants why other h)
      ∙ t.sees

  pub wanted_by_table : (why : Refusal) (m : MemoryWanted) → Refuses rows wants why → why ≡ NoMemory m
      → MayWantMemory w.protocol.state (allowed w.start w.protocol.state packet event)
  wanted_by_table why m h memory =
      let k = rw memory at h in subst (MayWantMemory w.protocol.state) (done_by_table k.0) (t.may k.1)

-- WHAT AN EVENT LOOKS AT, as the machines and the ports of a pair say it

abbrev pub seen : Pair → Sight
seen w = record {
  outbox = w.nodes.live.outbox;
  sent = sent w.nodes.live.guest;
  steps = (next w.nodes.live.guest).steps;
  resumed = w.nodes.image.guest.steps;
  boxes = w.ports.boxes;
  owed = owed_to w.protocol.state w.ports;
  inbox = λ c. list_of w.ports.inboxes c;
  number = w.ports.next;
}

module _ (w : Pair) (h : Holds w) where
  pub step_sees_the_pair : on_step (seen w) w.protocol.state ≡ step_outcome w.start w.protocol.state
  step_sees_the_pair = search (arith, rules, live_is, outbox_is)

  pub cut_sees_the_pair : on_cut (seen w) w.protocol.state ≡ allowed w.start w.protocol.state None Cut
  cut_sees_the_pair = ap (λ (fs : List Frame). unless w.protocol.state (cut_refusals w.protocol.state) (cut_done fs w.protocol.state)) (sym (outbox_is w h))

  fail_backup_sees_the_pair : on_fail_backup (seen w) w.protocol.state ≡ allowed w.start w.protocol.state None FailBackup
  fail_backup_sees_the_pair = search (arith, rules, outbox_is)

  pub fail_backup_by_table : ByTable w None FailBackup
      (fail_backup_refusals w.ports.boxes w.nodes.live.outbox w.protocol.state) ⊤
      (fail_backup_done w.ports.boxes w.nodes.live.outbox w.protocol.state)
  fail_backup_by_table = record { sees = fail_backup_sees_the_pair; may = λ _. tt }

  pub inbox_is : (c : ℕ) → 1 ≤ c → c ≤ length w.ports.boxes → list_of w.ports.inboxes c ≡ inbox_of c (live_state w).waiting
  inbox_is c low high = h.accords.clients.inboxes c low high ∙ ap (inbox_of c) (sym (live_waiting w h))

  -- where no client has the number, what would wait of it doesn't count
  pub admit_sees_the_pair : (c : ℕ) → on_admit (seen w) w.protocol.state c ≡ allowed w.start w.protocol.state None (Admit c)
  admit_sees_the_pair c =
      by_test (not (is_among c (length w.ports.boxes))) refl
      ∙ ap (λ (b : List (List Frame)). on_admit (record (sight w.start w.protocol.state) { boxes = b }) w.protocol.state c) h.accords.clients.boxes
    where
      at_rows : Bool → List (ℕ × Frame) → Outcome
      at_rows t inbox =
          let first = slice_get inbox 0 in
          unless w.protocol.state
          ((t, NoClient) ∷ (is_stopped w.protocol.state.mode, Stopped) ∷ if_there first ((exhausts w.protocol.state 1, Exhausted) ∷ []))
          (admit_of w.protocol.state first)

      by_test : (t : Bool) → not (is_among c (length w.ports.boxes)) ≡ t
          → at_rows t (list_of w.ports.inboxes c) ≡ at_rows t (inbox_of c (live_state w).waiting)
      by_test true e = refl
      by_test false e =
          let range = client_range c (length w.ports.boxes) e in
          ap (at_rows false) (inbox_is c range.0 range.1)

  -- the table of a delivery, by its first test
  abbrev at_rows : ℕ → List ℕ → Bool → List (ℕ × Frame) → Outcome
  at_rows c bytes t inbox =
      or_else (first_refusal ((t, NoClient) ∷ (is_bad_length (length bytes), BadFrame) ∷ (exhausts w.protocol.state 1, Exhausted)
      ∷ (nat_le inbox_frames (length inbox), Full) ∷ (nat_le number_limit (shown_state w).number, Exhausted) ∷ []))
      (delivery_refused w.protocol.state c (record { items = bytes }))
      (deliver_done w.protocol.state c (record { items = bytes }) (shown_state w).number)

  pub deliver_sees_the_pair : (c : ℕ) (bytes : List ℕ)
      → on_deliver (seen w) w.protocol.state c bytes ≡ on_deliver (sight w.start w.protocol.state) w.protocol.state c bytes
  deliver_sees_the_pair c bytes =
      ap (λ (n : ℕ). on_deliver (record (seen w) { number = n }) w.protocol.state c bytes) h.accords.clients.number
      ∙ by_test (not (is_among c (length w.ports.boxes))) refl
      ∙ ap (λ (b : List (List Frame)). on_deliver (record (sight w.start w.protocol.state) { boxes = b }) w.protocol.state c bytes)
      h.accords.clients.boxes
    where
      by_test : (t : Bool) → not (is_among c (length w.ports.boxes)) ≡ t
          → at_rows c bytes t (list_of w.ports.inboxes c) ≡ at_rows c bytes t (inbox_of c (live_state w).waiting)
      by_test true e = refl
      by_test false e =
          let range = client_range c (length w.ports.boxes) e in
          ap (at_rows c bytes false) (inbox_is c range.0 range.1)

  -- ADMIT, by its table
  module _ (c : ℕ) where
    abbrev pub first : Option (ℕ × Frame)
    first = slice_get (list_of w.ports.inboxes c) 0

    abbrev pub arrival : List Row
    arrival = admit_refusals (length w.ports.boxes) w.protocol.state c first

    pub admit_by_table : ByTable w None (Admit c) arrival (IsSome first) (admit_of w.protocol.state first)
    admit_by_table = record { sees = admit_sees_the_pair c; may = may first }
      where
        may : (o : Option (ℕ × Frame)) → IsSome o → MayWantMemory w.protocol.state (admit_of w.protocol.state o)
        may None some = absurd (cc)
        may (Some x) some = tt

  -- DELIVER, by its table
  module _ (c : ℕ) (bytes : List ℕ) where
    abbrev pub rows : List Row
    rows = deliver_refusals false (length w.ports.boxes) (list_of w.ports.inboxes c) w.ports.next w.protocol.state c bytes

    by_table : (o : Option Refusal) → first_refusal rows ≡ o
        → or_else o (delivery_refused w.protocol.state c (record { items = bytes }))
        (deliver_done w.protocol.state c (record { items = bytes }) w.ports.next)
        ≡ on_deliver (sight w.start w.protocol.state) w.protocol.state c bytes
    by_table o e = search (arith, rules, deliver_sees_the_pair)

    pub delivery_is_done : first_refusal rows ≡ None → deliver_done w.protocol.state c (record { items = bytes }) w.ports.next
        ≡ on_deliver (sight w.start w.protocol.state) w.protocol.state c bytes
    delivery_is_done = by_table None

    pub delivery_is_refused : (why : Refusal) → first_refusal rows ≡ Some why → delivery_refused w.protocol.state c (record { items = bytes }) why
        ≡ on_deliver (sight w.start w.protocol.state) w.protocol.state c bytes
    delivery_is_refused why = by_table (Some why)

    pub delivery_may_want : (first_refusal rows ≡ None) ⊎ (first_refusal rows ≡ Some Full)
        → MayWantMemory w.protocol.state (on_deliver (sight w.start w.protocol.state) w.protocol.state c bytes)
    delivery_may_want (inl none) = rw (← delivery_is_done none) tt
    delivery_may_want (inr full) = rw (← delivery_is_refused Full full) refl

  -- a refusal that left all as it was
  pub after_none : (why : Refusal) → AfterRefusal why w w
  after_none Full = refl
  after_none other = refl
