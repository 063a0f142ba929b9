-- What an event and a run are to the clients, from what the pair knows of them.
use Rattle.std.proofs.Common.{◌≡◌, List, [], ◌∷◌, ◌++◌, refl, sym, ap, ◌∙◌, append_assoc, inl, inr, subst, true}
use Rattle.std.proofs.lemmas.List.{append-nil, append_cancel_left}
use Rattle.std.proofs.lemmas.List.Elements.{All-head, All-tail}
use Rattle.std.specs.Prelude.{All}
use Rattle.guest_rules.specs.Guest.{Guest}
use Rattle.pair_history.specs.{Entries.{Entry, Begins}, HistoryState.{HistoryState, after, at, Legal}}
use Rattle.pair_history.specs.laws.Histories.{at-append, Legal-append}
use Rattle.memory_wanted.specs.Wanted.{wanted}
use Rattle.pair_record.specs.{declared.event.Event.Event, declared.event.Event.TheVariants.GoLive, declared.event.Refusal.Refusal}
use Rattle.pair_record.specs.{declared.event.Refusal.TheVariants.NoMemory, declared.event.Reply.Reply, Journal.{kept_entries, all_entries}}
use Rattle.pair_core.specs.Drops.{Drops}
use Rattle.pair_record.specs.Modes.{is_alone, mode_refusal}
use Rattle.pair_core.specs.{Calls.Moment, Pair.{Pair, IsConsistent}}
use Rattle.pair_record.specs.Protocol.{go_live_done, Record, Outcome, refused, first_refusal, shown_at, live_at, live_entries}
use Rattle.pair_record.specs.Protocol.{go_live_refusals}
use Rattle.pair_core.specs.{Answering.AnswersIn, Lines.{Lines, Protocol, got}}
use Rattle.pair_core.specs.Service.{moment, Resumes, Enters, Tells, Serves, HasServed, guest_entries}
use Rattle.pair_core.specs.laws.{Along.along-keeps, Consistent.lone}
use Rattle.pair_core.specs.laws.{Calls.answers_call, Enters.enters_all, Ends.{by_table, answers_end}}
use Rattle.pair_core.specs.laws.Tells.{OfGuest, live_all, tells_all}
use Rattle.pair_record.specs.declared.event.Reply.TheVariants as replies

-- drops leave the guest as it was
abbrev Keeps : Entry → Type 0
Keeps e = (t : HistoryState) → (after t e).guest ≡ t.guest

drops_guest : (s : HistoryState) (es : List Entry) → All Keeps es → (at s es).guest ≡ s.guest
drops_guest s [] p = refl
drops_guest s (e ∷ es) p = drops_guest (after s e) es (All-tail Keeps e es p) ∙ All-head Keeps e es p s

-- a moment, as a record says it
abbrev pub moment_of : Record → Guest → Moment
moment_of r g = record { history = r.journal.history; sealed = r.journal.sealed; running = r.journal.running; guest = g }

-- A backup that goes live goes on with the guest of the history, as its reply says.
module _ (start : HistoryState) (r new : Record) (g : Guest) (live : g ≡ (live_at start new).guest) where
  abbrev s : HistoryState
  s = shown_at start r

  abbrev done : Outcome
  done = go_live_done s.boxes s.out s.guest.steps r

  resumes_done : (reply : Reply) → (reply, new) ≡ done → Resumes GoLive reply (moment_of new g)
  resumes_done reply e =
      let es = live_entries s.boxes s.out r.journal in
      let h = r.journal.history in
      rw (ap (λ (o : Outcome). o.0) e) (
        ap (λ (o : Outcome). kept_entries o.1.journal) e,
        ap (λ (g : Guest). g.steps) live
            ∙ ap (λ (o : Outcome). (live_at start o.1).guest.steps) e
            ∙ ap (λ (t : List Entry). (at start t).guest.steps) (append-nil (h ++ es))
            ∙ ap (λ (t : HistoryState). t.guest.steps) (at-append start h es)
            ∙ ap (λ (g : Guest). g.steps) (drops_guest s es (live_all Keeps (λ n t. refl) (λ c t. refl) (λ c place t. refl) s.boxes s.out r.journal)),
      )

  resumes_refused : (reply : Reply) (why : Refusal) → reply ≡ replies.Refused why → Resumes GoLive reply (moment_of new g)
  resumes_refused reply why e = rw e tt

  answers_resume : (l : Lines) (event : Event) (reply : Reply) → AnswersIn start r (got l event) event reply new → Resumes event reply (moment_of new g)
  answers_resume l GoLive reply (inl e) =
      by_table Leaves (mode_refusal r.mode GoLive) (refused r) _ stopped
      (λ goes. by_table Leaves (first_refusal (go_live_refusals s.boxes s.out r)) (refused r) done stopped (λ none. resumes_done reply)) e
    where
      Leaves : Outcome → Type 0
      Leaves o = (reply, new) ≡ o → Resumes GoLive reply (moment_of new g)

      stopped : (why : Refusal) → Leaves (refused r why)
      stopped why e = resumes_refused reply why (ap (λ (o : Outcome). o.0) e)
  answers_resume l GoLive reply (inr e) = resumes_refused reply (NoMemory wanted) e.1
  answers_resume l other reply a = tt

-- One event serves the clients, as the records before and after it say.
pub one_event_serves_at : (start : HistoryState) (old end : Protocol) (g g' : Guest) (event : Event) (reply : Reply)
    → Drops start old event reply end
    → All OfGuest (kept_entries old.state.journal) → (is_alone old.state.mode ≡ true → kept_entries old.state.journal ≡ [])
    → Legal start (all_entries end.state.journal) → All OfGuest (kept_entries end.state.journal) → g' ≡ (live_at start end.state).guest
    → Serves start (moment_of old.state g) event reply (moment_of end.state g')
one_event_serves_at start old end g g' event reply d kept lone legal moves live =
    let r = old.state in
    let new = end.state in
    let l = old.lines in
    let told = answers_end start r l _ (tells_all start r kept l) event reply new d.answers.0 in
    let entered = answers_end start r l _ (enters_all start r g g' kept lone l) event reply new d.answers.0 in
    let h = r.journal.history in
    let same : told.0 ≡ d.entries = append_cancel_left h told.0 d.entries (sym told.1 ∙ d.grows) in
    let alike : entered.0 ≡ d.entries = append_cancel_left h entered.0 d.entries (sym entered.1 ∙ d.grows) in
    record {
      added = d.entries;
      grows = d.grows;
      legal = legal;
      moves = moves;
      enters = subst (λ es. Enters event reply (moment_of r g) (guest_entries es) (moment_of new g')) alike entered.2;
      guest = live;
      resumes = answers_resume start r new g' live l event reply d.answers.0;
      answered = answers_call start r g l event reply new d.answers.0;
      tells = subst (λ es. Tells event reply es) same told.2;
      loses = d.only;
    }

-- One event serves the clients.
pub one_event_serves : (old new : Pair) (event : Event) (reply : Reply) → new.start ≡ old.start → IsConsistent old → IsConsistent new
    → Drops old.start old.protocol event reply new.protocol → Serves old.start (moment old) event reply (moment new)
one_event_serves old new event reply e before k d =
    let h = new.protocol.state.journal.history in
    let legal : Legal old.start (all_entries new.protocol.state.journal) =
    rw (← e) (Legal-append new.start h (kept_entries new.protocol.state.journal) k.legal k.goes_on) in
    let live : new.nodes.live.guest ≡ (live_at old.start new.protocol.state).guest =
    k.live ∙ ap (λ (s : HistoryState). (live_at s new.protocol.state).guest) e in
    one_event_serves_at old.start old.protocol new.protocol old.nodes.live.guest new.nodes.live.guest event reply d before.kept
    (λ a. (lone old.protocol.state.mode old a before.mode).kept) legal k.kept live

-- A RUN lets the history only grow.

pub Begins-trans : (a b c : List Entry) → Begins a b → Begins b c → Begins a c
Begins-trans a b c p q = (p.0 ++ q.0, q.1 ∙ ap (λ t. t ++ q.0) p.1 ∙ append_assoc a p.0 q.0)

pub served_grows : (start : HistoryState) (old new : Moment) (events : List Event) (answers : List Reply)
    → HasServed start old events answers new → Begins old.history new.history
served_grows start old new events answers run =
    along-keeps (Serves start) (λ m. Begins old.history m.history)
    (λ event reply m n one begins. Begins-trans old.history m.history n.history begins (one.added, one.grows))
    events answers old new run ([], sym (append-nil old.history))
