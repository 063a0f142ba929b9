-- In which ways each event may end, by its table, and the entries by which the history grows: what holds of each way holds of whatever
-- the event is answered.
use Rattle.std.proofs.Common.{length, ◌≡◌, ℕ, List, [], ◌∷◌, ◌++◌, refl, sym, ap, ◌∙◌, subst, append_assoc, Bool, true, false, cond, Option, None}
use Rattle.std.proofs.{Common.{Some, inl, inr, Bor}, lemmas.List.append-nil}
use Rattle.std.specs.Prelude.{slice_get, nat_lt, option_map}
use Rattle.guest_rules.specs.Step.{next, sent}
use Rattle.frame_ports.specs.Lands.{list_of}
use Rattle.pair_history.specs.{Entries.{Frame, Entry, Arrive, Delivered, DropIn, DropOut, Took}, HistoryState.{HistoryState, inbox_of}}
use Rattle.pair_history.specs.Landings.{landings}
use Rattle.memory_wanted.specs.Wanted.{wanted}
use Rattle.pair_record.specs.declared.event.Event.{Event}
use Rattle.pair_record.specs.declared.event.Event.TheVariants.{Step, Cut, Send, BackupGet, AckGet, Admit, Deliver, Take, LoseIn, LoseOut}
use Rattle.pair_record.specs.{declared.event.Event.TheVariants.{FailPrimary, FailBackup, GoLive, Protect}, declared.event.Packet.Packet}
use Rattle.pair_record.specs.{declared.event.Refusal.Refusal, declared.event.Refusal.TheVariants.{Full, NoMemory}}
use Rattle.pair_record.specs.declared.event.Reply.{Reply}
use Rattle.pair_record.specs.Journal.{first_of, kept_entries, with_moves}
use Rattle.pair_core.specs.Answering.{AnswersIn}
use Rattle.pair_core.specs.Lines.{Lines, got}
use Rattle.pair_record.specs.Modes.{is_alone, mode_refusal, backup_refusal, change_refusal}
use Rattle.pair_record.specs.Protocol.{Record, Outcome, allowed, outcome, or_else, refused, shown_at, live_at, outbox_of, step_done}
use Rattle.pair_record.specs.Protocol.{step_entries, cut_done, send_done, again_done, commit_done, backup_outcome, let_go, ack_done}
use Rattle.pair_record.specs.Protocol.{unless, ack_outcome, admit_refusals, admit_of, admit_done, delivery_refused, deliver_done, take_done, on_loss, loss_done}
use Rattle.pair_record.specs.Protocol.{fail_primary_done, all_held, fail_backup_done, live_entries, go_live_done, protect_done}
use Rattle.pair_record.specs.laws.Tables.{passed, same_generation}
use Rattle.failover.specs.declared.change.Change.TheVariants as changes
use Rattle.pair_history.specs.Entries as entries
use Rattle.pair_record.specs.declared.event.Reply.TheVariants as replies

-- what the guest does goes to the history at once where a node is alone
abbrev pub at_once : Bool → List Entry → List Entry
at_once true es = es
at_once false es = []

-- a full inbox is no refusal that changes nothing
abbrev pub ChangesNothing : Event → Refusal → Type 0
ChangesNothing (Deliver c bytes) Full = ⊥
ChangesNothing event why = Unit {0}

abbrev frame_of : Bor (List ℕ) → Frame
frame_of bytes = record { items = bytes.now }

-- a table decides
pub by_table : (P : Outcome → Type 0) (o : Option Refusal) (refuse : Refusal → Outcome) (done : Outcome)
    → ((why : Refusal) → P (refuse why)) → (o ≡ None → P done) → P (or_else o refuse done)
by_table P None refuse done p q = q refl
by_table P (Some why) refuse done p q = p why

module _ (start : HistoryState) (r : Record) (l : Lines) where
  abbrev boxes : List (List Frame)
  boxes = (shown_at start r).boxes

  abbrev inbox : ℕ → List (ℕ × Frame)
  inbox c = inbox_of c (live_at start r).waiting

  -- P holds of each way in which an event ends, and of the entries that it adds
  pub record Ends (P : Event → List Entry → Outcome → Type 0) : Type 0 where
    pub refuses : (event : Event) (why : Refusal) → ChangesNothing event why → P event [] (refused r why)
    pub step : (alone : Bool) → is_alone r.mode ≡ alone
        → P Step (at_once alone (step_entries true boxes (sent (live_at start r).guest)))
        (step_done boxes (sent (live_at start r).guest) (next (live_at start r).guest).steps r)
    pub cut : P Cut [] (cut_done (outbox_of start r) r)
    pub send : P Send [] (send_done r)
    pub lost : (k : ℕ) → P (BackupGet k) [] (replies.Lost, r) × P (AckGet k) [] (replies.Lost, r)
    pub again : (k : ℕ) → P (BackupGet k) [] (again_done r)
    pub commit : (k : ℕ) → backup_refusal r.mode ≡ None → P (BackupGet k) (first_of r.journal.sealed) (commit_done r)
    pub acknowledge : (k : ℕ) (p : Packet) → slice_get l.back k ≡ Some p → p.generation ≡ r.generation
        → P (AckGet k) (landings boxes (let_go boxes r p.number)) (ack_done boxes r p.number)
    pub empty : (c place : ℕ) → P (Admit c) [] (replies.Empty, r) × P (LoseIn c place) [] (replies.Empty, r)
        × P (LoseOut c place) [] (replies.Empty, r)
    pub admit : (c n : ℕ) (alone : Bool) → is_alone r.mode ≡ alone → P (Admit c) (at_once alone (Arrive n ∷ [])) (admit_done r n)
    pub full : (c : ℕ) (bytes : Bor (List ℕ))
        → P (Deliver c bytes) (entries.Refused c (frame_of bytes) ∷ []) (delivery_refused r c (frame_of bytes) Full)
    pub deliver : (c : ℕ) (bytes : Bor (List ℕ))
        → P (Deliver c bytes) (Delivered c (frame_of bytes) (shown_at start r).number ∷ [])
        (deliver_done r c (frame_of bytes) (shown_at start r).number)
    pub take : (c : ℕ) → P (Take c) (Took c (slice_get (list_of boxes c) 0) ∷ []) (take_done boxes r c)
    pub lose_in : (c place : ℕ) (x : ℕ × Frame) → slice_get (inbox c) place ≡ Some x
        → P (LoseIn c place) (DropIn x.0 ∷ []) (loss_done r (DropIn x.0))
    pub lose_out : (c place : ℕ) (f : Frame) → slice_get (list_of boxes c) place ≡ Some f
        → P (LoseOut c place) (DropOut c place ∷ []) (loss_done r (DropOut c place))
    pub fail_primary : change_refusal changes.FailPrimary r.mode ≡ None → P FailPrimary [] (fail_primary_done r)
    pub fail_backup : P FailBackup (kept_entries r.journal ++ landings boxes (all_held boxes (outbox_of start r) r))
        (fail_backup_done boxes (outbox_of start r) r)
    pub go_live : P GoLive (live_entries boxes (shown_at start r).out r.journal)
        (go_live_done boxes (shown_at start r).out (shown_at start r).guest.steps r)
    pub protect : P Protect [] (protect_done r)

  module _ (P : Event → List Entry → Outcome → Type 0) (e : Ends P) where
    abbrev Ended : Event → Outcome → Type 0
    Ended event o = (es : List Entry) × (o.1.journal.history ≡ r.journal.history ++ es) × P event es o

    -- the history stays
    stays : (event : Event) (o : Outcome) → o.1.journal.history ≡ r.journal.history → P event [] o → Ended event o
    stays event o same p = ([], same ∙ sym (append-nil r.journal.history), p)

    moved : (alone : Bool) → is_alone r.mode ≡ alone → (es : Bool → List Entry)
        → (with_moves (is_alone r.mode) r.journal (es (is_alone r.mode))).history ≡ r.journal.history ++ at_once alone (es true)
    moved true is es = ap (λ (t : Bool). (with_moves t r.journal (es t)).history) is
    moved false is es = ap (λ (t : Bool). (with_moves t r.journal (es t)).history) is ∙ sym (append-nil r.journal.history)

    by_rows : (event : Event) → ((why : Refusal) → ChangesNothing event why) → (o : Option Refusal) (done : Outcome)
        → (o ≡ None → Ended event done) → Ended event (or_else o (refused r) done)
    by_rows event plain o done q =
        by_table (Ended event) o (refused r) done (λ why. stays event (refused r why) refl (e.refuses event why (plain why))) q

    allowed_end : (event : Event) → mode_refusal r.mode event ≡ None → Ended event (allowed start r (got l event) event)
    allowed_end Step goes = by_rows Step (λ why. tt) _ _ (λ none. by_mode (is_alone r.mode) refl)
      where
        by_mode : (alone : Bool) → is_alone r.mode ≡ alone
            → Ended Step (step_done boxes (sent (live_at start r).guest) (next (live_at start r).guest).steps r)
        by_mode alone is =
            let fs = sent (live_at start r).guest in
            (at_once alone (step_entries true boxes fs), moved alone is (λ t. step_entries t boxes fs), e.step alone is)
    allowed_end Cut goes = by_rows Cut (λ why. tt) _ _ (λ none. stays Cut (cut_done (outbox_of start r) r) refl e.cut)
    allowed_end Send goes = stays Send (send_done r) refl e.send
    allowed_end (BackupGet k) goes = by_packet (slice_get l.forward k)
      where
        by_test : (t : Bool) → Ended (BackupGet k) (cond t (again_done r) (commit_done r))
        by_test true = stays (BackupGet k) (again_done r) refl (e.again k)
        by_test false = (first_of r.journal.sealed, refl, e.commit k goes)

        by_packet : (o : Option Packet) → Ended (BackupGet k) (backup_outcome r o)
        by_packet None = stays (BackupGet k) (replies.Lost, r) refl (e.lost k).0
        by_packet (Some p) = by_rows (BackupGet k) (λ why. tt) _ _ (λ none. by_test (nat_lt p.number r.window.to_commit))
    allowed_end (AckGet k) goes = by_packet (slice_get l.back k) refl
      where
        by_packet : (o : Option Packet) → slice_get l.back k ≡ o → Ended (AckGet k) (ack_outcome boxes r o)
        by_packet None is = stays (AckGet k) (replies.Lost, r) refl (e.lost k).1
        by_packet (Some p) is =
            by_rows (AckGet k) (λ why. tt) _ _ (λ none. (
              landings boxes (let_go boxes r p.number),
              refl,
              e.acknowledge k p is (same_generation p.generation r.generation (passed _ _ _ none).0),
            ))
    allowed_end (Admit c) goes = by_first (slice_get (inbox c) 0)
      where
        by_mode : (n : ℕ) (alone : Bool) → is_alone r.mode ≡ alone → Ended (Admit c) (admit_done r n)
        by_mode n alone is = (at_once alone (Arrive n ∷ []), moved alone is (λ t. Arrive n ∷ []), e.admit c n alone is)

        by_first : (o : Option (ℕ × Frame)) → Ended (Admit c) (unless r (admit_refusals (length boxes) r c o) (admit_of r o))
        by_first None = by_rows (Admit c) (λ why. tt) _ _ (λ none. stays (Admit c) (replies.Empty, r) refl (e.empty c 0).0)
        by_first (Some x) = by_rows (Admit c) (λ why. tt) _ _ (λ none. by_mode x.0 (is_alone r.mode) refl)
    allowed_end (Deliver c bytes) goes =
        by_table (Ended (Deliver c bytes)) _ (delivery_refused r c (frame_of bytes)) _ refuses (λ none. (_, refl, e.deliver c bytes))
      where
        refuses : (why : Refusal) → Ended (Deliver c bytes) (delivery_refused r c (frame_of bytes) why)
        refuses Full = (entries.Refused c (frame_of bytes) ∷ [], refl, e.full c bytes)
        refuses other = stays (Deliver c bytes) (refused r other) refl (e.refuses (Deliver c bytes) other tt)
    allowed_end (Take c) goes = by_rows (Take c) (λ why. tt) _ _ (λ none. (_, refl, e.take c))
    allowed_end (LoseIn c place) goes = by_frame (slice_get (inbox c) place) refl
      where
        by_frame : (o : Option (ℕ × Frame)) → slice_get (inbox c) place ≡ o
            → Ended (LoseIn c place) (on_loss (length boxes) r c (option_map (λ (x : ℕ × Frame). DropIn x.0) o))
        by_frame None is = by_rows (LoseIn c place) (λ why. tt) _ _ (λ none. stays (LoseIn c place) (replies.Empty, r) refl (e.empty c place).1)
        by_frame (Some x) is = by_rows (LoseIn c place) (λ why. tt) _ _ (λ none. (DropIn x.0 ∷ [], refl, e.lose_in c place x is))
    allowed_end (LoseOut c place) goes = by_frame (slice_get (list_of boxes c) place) refl
      where
        by_frame : (o : Option Frame) → slice_get (list_of boxes c) place ≡ o
            → Ended (LoseOut c place) (on_loss (length boxes) r c (option_map (λ (f : Frame). DropOut c place) o))
        by_frame None is = by_rows (LoseOut c place) (λ why. tt) _ _ (λ none. stays (LoseOut c place) (replies.Empty, r) refl (e.empty c place).2)
        by_frame (Some f) is = by_rows (LoseOut c place) (λ why. tt) _ _ (λ none. (DropOut c place ∷ [], refl, e.lose_out c place f is))
    allowed_end FailPrimary goes = stays FailPrimary (fail_primary_done r) refl (e.fail_primary goes)
    allowed_end FailBackup goes =
        by_rows FailBackup (λ why. tt) _ _ (λ none. (_, append_assoc r.journal.history (kept_entries r.journal) _, e.fail_backup))
    allowed_end GoLive goes = by_rows GoLive (λ why. tt) _ _ (λ none. (_, refl, e.go_live))
    allowed_end Protect goes = by_rows Protect (λ why. tt) _ _ (λ none. stays Protect (protect_done r) refl e.protect)

    -- a mode refuses no delivery
    pub outcome_ends : (event : Event) → Ended event (outcome start r (got l event) event)
    outcome_ends (Deliver c bytes) = allowed_end (Deliver c bytes) refl
    outcome_ends other =
        by_table (Ended other) (mode_refusal r.mode other) (refused r) (allowed start r (got l other) other)
        (λ why. stays other (refused r why) refl (e.refuses other why tt)) (allowed_end other)

    wants_memory : (event : Event) → Ended event (refused r (NoMemory wanted))
    wants_memory (Deliver c bytes) =
        stays (Deliver c bytes) (refused r (NoMemory wanted)) refl (e.refuses (Deliver c bytes) (NoMemory wanted) tt)
    wants_memory other = stays other (refused r (NoMemory wanted)) refl (e.refuses other (NoMemory wanted) tt)

    pub answers_end : (event : Event) (reply : Reply) (new : Record) → AnswersIn start r (got l event) event reply new → Ended event (reply, new)
    answers_end event reply new (inl is) = subst (Ended event) (sym is) (outcome_ends event)
    answers_end event reply new (inr is) = subst (Ended event) (λ i. (sym is.1 i, sym is.2 i)) (wants_memory event)
