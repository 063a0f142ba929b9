-- What a step keeps of the tie, where it adds entries of clients or of the line.
use Rattle.std.proofs.Common.{◌≡◌, ℕ, List, [], ◌∷◌, ◌++◌, length, map, drop, refl, sym, ap, ◌∙◌, subst, append_assoc, arith}
use Rattle.frame_ports.specs.Ports.{PortsState}
use Rattle.pair_history.specs.Entries.{Entry, Arrive}
use Rattle.pair_history.specs.HistoryState.{HistoryState, at}
use Rattle.pair_history.specs.HistoryState as history
use Rattle.pair_history.specs.Order.{AreGuests}
use Rattle.pair_history.specs.laws.Moves.{Legal-moves}
use Rattle.std.proofs.lemmas.List.{length-map}
use Rattle.pair_history.specs.laws.Histories.{Legal-append, at-append}
use Rattle.pair_record.specs.Journal.{Journal, joined, kept_entries, with_history}
use Rattle.pair_record.specs.Protocol.{Record, shown_at}
use Rattle.pair_record.specs.Accords.{Accords, kept_moves}
use Rattle.pair_record.specs.laws.Accords.{kept_is}
use Rattle.growing_history.specs.Steps.{What, Step, step, Added}
use Rattle.growing_history.specs.LogState.{LogState, Epoch, LegalSteps, Needs, MayStep, DropsKnown, AreOwn, AreKnown}
use Rattle.growing_history.specs.LogState.{state_at, sealed_state, history_of, entries_of, under_way, added, after_step}
use Rattle.growing_history.specs.laws.Logs.{goes-on, state-snoc, history-snoc, history-stands, marked}
use Rattle.pair_history.specs.laws.Histories.{legal-second}
use Rattle.growing_history.specs.Waiting.{IsStill}
use Rattle.growing_history.specs.laws.Waiting.{legal-guests, still-wait}
use Rattle.pair_book.specs.internal.{Tie.{IsTied, sealed_entries}, Waits.AreWaiting}
use Rattle.pair_book.proofs.Waits.{still-waiting}

pub sealed-joined : (es : List Epoch) → joined (map (λ (e : Epoch). e.entries) es) ≡ entries_of es
sealed-joined [] = refl
sealed-joined (e ∷ es) = ap (λ l. e.entries ++ l) (sealed-joined es)

-- the history, and then what is kept, is legal
pub all-legal : (start : HistoryState) (r : Record) (p : PortsState) → Accords start r p
    → history.Legal start (r.journal.history ++ kept_entries r.journal)
all-legal start r p a =
    let s = at start r.journal.history in
    Legal-append start r.journal.history (kept_entries r.journal) a.journal.legal
    (subst (history.Legal s) (sym (kept_is start r p a)) (Legal-moves s (kept_moves start r.journal a.journal) a.journal.can))

-- what is kept is what is under way
kept-way : (j : Journal) (s : LogState) → j.sealed ≡ sealed_entries s → j.running ≡ map Arrive s.handed → kept_entries j ≡ under_way s
kept-way j s sealed running = (λ i. joined (sealed i) ++ running i) ∙ ap (λ l. l ++ map Arrive s.handed) (sealed-joined s.sealed)

pub way-is : (start : HistoryState) (steps : List Step) (r : Record) (p : PortsState) → IsTied start steps r p
    → kept_entries r.journal ≡ under_way (state_at start steps)
way-is start steps r p t = kept-way r.journal (state_at start steps) t.sealed t.running

-- what is sealed is what the record has sealed, and goes on from the state that clients see
module _ (start : HistoryState) (steps : List Step) (r : Record) (p : PortsState) (t : IsTied start steps r p) where
  pub shown : (state_at start steps).marked ≡ 0 → (state_at start steps).history ≡ shown_at start r
  shown none = history-stands start steps ∙ ap (at start) (sym (t.history none))

  pub sealed-are : entries_of (state_at start steps).sealed ≡ joined r.journal.sealed
  sealed-are = sym (ap joined t.sealed ∙ sealed-joined (state_at start steps).sealed)

  pub sealed-there : (state_at start steps).marked ≡ 0
      → sealed_state (state_at start steps) ≡ at start (r.journal.history ++ joined r.journal.sealed)
  sealed-there none = (λ i. at (shown none i) (sealed-are i)) ∙ sym (at-append start r.journal.history (joined r.journal.sealed))

  pub sealed-long : length r.journal.sealed ≡ length (state_at start steps).sealed
  sealed-long = ap length t.sealed ∙ length-map (state_at start steps).sealed (λ (e : Epoch). e.entries)

-- what is sealed is the guest's
pub tied-guests : (start : HistoryState) (steps : List Step) (r : Record) (p : PortsState) → IsTied start steps r p
    → AreGuests (entries_of (state_at start steps).sealed)
tied-guests start steps r p t = legal-guests start steps t.legal

-- a step that neither delivers nor drops by the line, nor ends an epoch, leaves what waits
pub tied-still : (start : HistoryState) (steps : List Step) (r : Record) (p q : PortsState) → IsTied start steps r p → (w : What)
    → IsStill w → q.next ≡ p.next → q.inboxes ≡ p.inboxes → length q.boxes ≡ length p.boxes → AreWaiting (after_step (state_at start steps) w) q
tied-still start steps r p q t w still next inboxes boxes =
    let s = state_at start steps in
    still-waiting s (after_step s w) p q t.waits (still-wait s w (tied-guests start steps r p t) still) next inboxes boxes

-- A STEP, whatever it is: its entries are what the history has gained, and what it leaves is what the record has
module _ (start : HistoryState) (steps : List Step) (r now : Record) (p q : PortsState) (t : IsTied start steps r p) (by : ℕ) (what : What)
    (may : MayStep (state_at start steps) by what)
    (known : (state_at start steps).marked ≡ 0 → DropsKnown (state_at start steps) by what)
    (grown : (state_at start steps).marked ≡ 0 → now.journal.history ≡ r.journal.history ++ added (state_at start steps) what)
    (sealed : now.journal.sealed ≡ sealed_entries (after_step (state_at start steps) what))
    (running : now.journal.running ≡ map Arrive (after_step (state_at start steps) what).handed)
    (mode : now.mode ≡ (after_step (state_at start steps) what).mode)
    (generation : now.generation ≡ (after_step (state_at start steps) what).generation)
    (next : now.window.to_cut ≡ (after_step (state_at start steps) what).next)
    (boxes : length q.boxes ≡ length p.boxes)
    (waits : AreWaiting (after_step (state_at start steps) what) q)
    (accords : (state_at start steps).marked ≡ 0 → Accords start now q) where
  abbrev s : LogState
  s = state_at start steps

  abbrev x : Step
  x = step by what

  way-now : kept_entries now.journal ≡ under_way (after_step s what)
  way-now = kept-way now.journal (after_step s what) sealed running

  history-now : s.marked ≡ 0 → now.journal.history ≡ history_of start steps ++ added s what
  history-now none = grown none ∙ ap (λ l. l ++ added s what) (t.history none)

  needs : Needs s x
  needs = record {
    may = may;
    known = known;
    lawful = λ none.
        let same : now.journal.history ++ kept_entries now.journal
        ≡ history_of start steps ++ (added s what ++ under_way (after_step s what)) =
        (λ i. history-now none i ++ way-now i) ∙ append_assoc (history_of start steps) (added s what) (under_way (after_step s what)) in
        let all = subst (history.Legal start) same (all-legal start now q (accords none)) in
        subst (λ h. history.Legal h (added s what ++ under_way (after_step s what))) (sym (history-stands start steps))
        (legal-second start (history_of start steps) (added s what ++ under_way (after_step s what)) all);
  }

  pub step-legal : LegalSteps start (steps ++ x ∷ [])
  step-legal = goes-on start steps x t.legal needs

  pub step-tied : IsTied start (steps ++ x ∷ []) now q
  step-tied =
      let there : state_at start (steps ++ x ∷ []) ≡ after_step s what = state-snoc start steps x in
      let back = sym there in
      let before : (state_at start (steps ++ x ∷ [])).marked ≡ 0 → s.marked ≡ 0 =
      λ none. let least = marked s what in let same = ap (λ (u : LogState). u.marked) there in omega (arith, least, same, none) in
      record {
        legal = step-legal;
        history = λ none. history-now (before none) ∙ sym (history-snoc start steps x);
        sealed = sealed ∙ ap sealed_entries back;
        running = running ∙ ap (λ (u : LogState). map Arrive u.handed) back;
        mode = mode ∙ ap (λ (u : LogState). u.mode) back;
        generation = generation ∙ ap (λ (u : LogState). u.generation) back;
        next = next ∙ ap (λ (u : LogState). u.next) back;
        clients = boxes ∙ t.clients;
        waits = subst (λ (u : LogState). AreWaiting u q) back waits;
        accords = λ none. accords (before none);
      }

-- A STEP THAT ADDS ENTRIES of clients or of the line
module _ (start : HistoryState) (steps : List Step) (r : Record) (p q : PortsState) (t : IsTied start steps r p)
    (by : ℕ) (es : List Entry) (own : AreOwn by es)
    (known : (state_at start steps).marked ≡ 0 → AreKnown (under_way (state_at start steps)) (state_at start steps).history by es)
    (boxes : length q.boxes ≡ length p.boxes)
    (waits : AreWaiting (after_step (state_at start steps) (Added es)) q)
    (accords : Accords start r p → Accords start (record r { journal = with_history r.journal es }) q) where
  pub added-tied : IsTied start (steps ++ step by (Added es) ∷ []) (record r { journal = with_history r.journal es }) q
  added-tied =
      step-tied start steps r (record r { journal = with_history r.journal es }) p q t by (Added es) own known
      (λ none. refl) t.sealed t.running t.mode t.generation t.next boxes waits (λ none. accords (t.accords none))

-- The laws of a call are stated at the record and the ports that it makes; what it leaves is these.
pub tied-as : {start : HistoryState} {steps : List Step} {r now : Record} {p q : PortsState} → now ≡ r → q ≡ p → IsTied start steps r p
    → IsTied start steps now q
tied-as {start} {steps} is ports t = subst (λ (y : Record × PortsState). IsTied start steps y.0 y.1) (λ i. (sym is i, sym ports i)) t

-- what the history has gained
pub gained-there : (n : ℕ) (h : List Entry) (r now : Record) (es : List Entry) → n ≡ length r.journal.history → h ≡ now.journal.history
    → now.journal.history ≡ r.journal.history ++ es → drop n h ≡ es
gained-there n h r now es len same is = (λ i. drop (len i) ((same ∙ is) i)) ∙ rest r.journal.history
  where
    rest : (xs : List Entry) → drop (length xs) (xs ++ es) ≡ es
    rest [] = refl
    rest (x ∷ xs) = rest xs

pub gained : (n : ℕ) (h : List Entry) (r now : Record) (es : List Entry) → n ≡ length r.journal.history → h ≡ now.journal.history
    → now ≡ record r { journal = with_history r.journal es } → drop n h ≡ es
gained n h r now es len same is = gained-there n h r now es len same (ap (λ (y : Record). y.journal.history) is)
