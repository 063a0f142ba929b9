-- What is kept of the tie where the backup goes live, and the table of refusals.
use Rattle.std.proofs.Common.{◌≡◌, ℕ, ◌+◌, ◌<◌, ◌≤◌, List, [], ◌∷◌, ◌++◌, length, refl, sym, ap, ◌∙◌, subst, Bool, true, false}
use Rattle.std.proofs.Common.{Option, Some, None, arith}
use Rattle.std.proofs.lemmas.{Bool.eqb-true}
use Rattle.std.specs.Prelude.{nat_le, not}
use Rattle.failover.specs.declared.change.Change.TheVariants as changes
use Rattle.failover.specs.declared.mode.Mode.{Mode}
use Rattle.failover.specs.declared.mode.Mode.TheVariants.{Paired, Filling, Alone, Stopped}
use Rattle.frame_ports.specs.{Limits.number_limit, Ports.PortsState}
use Rattle.output_gate.specs.laws.Ports.{rest_same-after, risen-after}
use Rattle.pair_history.specs.Entries.{Frame, Entry}
use Rattle.pair_history.specs.Failures.{go_live_entries}
use Rattle.pair_history.specs.HistoryState.{HistoryState}
use Rattle.pair_record.specs.declared.event.Refusal.{Refusal}
use Rattle.pair_record.specs.declared.event.Refusal.TheVariants as refusals
use Rattle.pair_record.specs.FailureActs.{entries_with, live_done}
use Rattle.pair_record.specs.Kept.{Brings, brought, brought_entries, brought_refusals, brought_done, ports_after_brought}
use Rattle.pair_record.specs.Modes.{change_refusal, is_alone}
use Rattle.pair_record.specs.Protocol.{Record, Row, first_refusal}
use Rattle.pair_record.specs.Record.{IsRecord, AreNumbered, SuitsMode}
use Rattle.pair_record.specs.Accords.{Accords}
use Rattle.pair_record.specs.laws.Owed.{brought_ports, brought_landings}
use Rattle.std.proofs.lemmas.Bool.{leb-false}
use Rattle.pair_record.specs.laws.Live.{entries_are, live_accords}
use Rattle.growing_history.specs.Steps.{Step, step, WentLive, Begins, steps_by}
use Rattle.growing_history.specs.LogState.{LogState, state_at, added, IsNew}
use Rattle.growing_history.specs.Views.{Member}
use Rattle.pair_book.specs.{Books.BookState, Calls.is_word_full, Failures.first_of, Standing.KeepsFrames}
use Rattle.pair_book.specs.GoingLive.{is_backup, go_live_rows, go_live_why}
use Rattle.pair_book.specs.internal.{Committed.KeepsCommitted, Tie.IsTied}
use Rattle.pair_book.proofs.{CommittedSeals.live-keeps, StandingLaws.frames-bring, Ties.{step-tied, shown, sealed-long, tied-as, tied-still, way-is}}
use Rattle.pair_book.proofs.Words.{word_room}

pub has_stopped : (m : Mode) → change_refusal changes.GoLive m ≡ None → m ≡ Stopped
has_stopped Paired e = absurd (cc)
has_stopped Filling e = absurd (cc)
has_stopped Alone e = absurd (cc)
has_stopped Stopped e = refl

-- WHERE NOTHING REFUSES IT
pub record MayGoLive (start : HistoryState) (b : BookState) (number first : ℕ) (kept : List (List Frame)) : Type 0 where
  pub free : change_refusal changes.GoLive b.protocol.mode ≡ None
  pub mine : number ≡ (state_at start b.steps).backup
  pub rows : first_refusal (brought_refusals b.protocol b.ports first kept) ≡ None
  pub few : b.protocol.generation + 1 < number_limit
  pub room : length b.steps < number_limit

abbrev none : Bool → Bool → Bool → Bool → Type 0
none mine last many full =
    first_refusal
    ((not mine, refusals.Stopped) ∷ (last, refusals.Exhausted) ∷ (many, refusals.Exhausted) ∷ (full, refusals.Exhausted) ∷ [])
    ≡ None

four : (mine last many full : Bool) → none mine last many full → (mine ≡ true) × (last ≡ false) × (many ≡ false) × (full ≡ false)
four false last many full e = absurd (cc)
four true true many full e = absurd (cc)
four true false true full e = absurd (cc)
four true false false true e = absurd (cc)
four true false false false e = (refl, refl, refl, refl)

two : (last many : Bool) → last ≡ false → many ≡ false
    → first_refusal ((last, refusals.Exhausted) ∷ (many, refusals.Exhausted) ∷ []) ≡ None
two false false a b = refl
two true many a b = absurd (cc)
two false true a b = absurd (cc)

-- neither the mode refuses, nor a row
none-of : (by_mode : Option Refusal) (rows : List Row) → first_of by_mode rows ≡ None → (by_mode ≡ None) × (first_refusal rows ≡ None)
none-of None rows e = (refl, e)
none-of (Some why) rows e = absurd (cc)

pub live_may : (start : HistoryState) (b : BookState) (number first : ℕ) (kept : List (List Frame))
    → go_live_why start b number first kept ≡ None → MayGoLive start b number first kept
live_may start b number first kept e =
    let r = b.protocol in
    let parts = none-of (change_refusal changes.GoLive r.mode) (go_live_rows start b number first kept) e in
    let last = nat_le number_limit (r.generation + 1) in
    let many =
    nat_le number_limit (length r.journal.history + length (entries_with (brought_entries r b.ports first kept) r.journal)) in
    let rows = four (is_backup start b number) last many (is_word_full b) parts.1 in
    record {
      free = parts.0;
      mine = eqb-true number (state_at start b.steps).backup rows.0;
      rows = two last many rows.1 rows.2;
      few = leb-false number_limit (r.generation + 1) rows.1;
      room = word_room b rows.3;
    }

module _ {start : HistoryState} {steps : List Step} {r : Record} {p : PortsState} (t : IsTied start steps r p)
    (c : KeepsCommitted start steps r p) (k : IsRecord r) (numbered : AreNumbered r p) (free : change_refusal changes.GoLive r.mode ≡ None)
    (seat : Member) (mine : seat.number ≡ (state_at start steps).backup) (b : Begins seat.steps steps)
    (own : steps_by seat.number steps ≡ steps_by seat.number seat.steps)
    (sent first : ℕ) (kept : List (List Frame)) (stands : KeepsFrames start seat sent first kept) where
  abbrev s : LogState
  s = state_at start steps

  stopped : r.mode ≡ Stopped
  stopped = has_stopped r.mode free

  -- WHAT IT BRINGS is what the clients are owed
  pub brings : s.marked ≡ 0 → Brings r p first kept
  brings none =
      let filled : 1 ≤ r.window.to_commit = subst (λ (m : Mode). SuitsMode m r.window) stopped k.suits in
      frames-bring start seat steps sent first kept b t.legal own stands r p t c k numbered (ap is_alone stopped)
      (omega (arith, filled, k.window.cut)) mine none

  module _ {now : Record} {q : PortsState} (runner done : ℕ) (new : IsNew s runner) (is : now ≡ (brought_done r p first kept done).1)
      (ports : q ≡ ports_after_brought p r first kept) where
    abbrev went : Record
    went = (brought_done r p first kept done).1

    live-history : s.marked ≡ 0 → went.journal.history ≡ r.journal.history ++ added s (WentLive runner)
    live-history none =
        let here = shown start steps r p t none in
        let way = way-is start steps r p t in
        ap (λ (es : List Entry). r.journal.history ++ entries_with es r.journal)
        (brought_landings r p numbered first kept (brings none))
        ∙ ap (λ (es : List Entry). r.journal.history ++ es) (sym (entries_are start r p (t.accords none)))
        ∙ (λ i. r.journal.history ++ go_live_entries (sym here i) (way i))

    live-accord : s.marked ≡ 0 → Accords start went (ports_after_brought p r first kept)
    live-accord none =
        let landed = brought_landings r p numbered first kept (brings none) in
        let there = brought_ports r p numbered first kept (brings none) in
        let same = ap (λ (es : List Entry). (live_done es done r).1) landed in
        subst (λ (y : Record × PortsState). Accords start y.0 y.1) (λ i. (sym same i, sym there i))
        (live_accords start r p (t.accords none) done)

    pub live-tied : IsTied start (steps ++ step 0 (WentLive runner) ∷ []) now q
    live-tied =
        let long = sealed-long start steps r p t in
        let rest = rest_same-after p first (brought r first kept) in
        let boxes = (risen-after p first (brought r first kept)).clients in
        let q' = ports_after_brought p r first kept in
        tied-as is ports
        (step-tied start steps r went p q' t 0 (WentLive runner) (refl, sym t.mode ∙ stopped, new) (λ none. tt)
        live-history refl refl refl (ap (λ n. n + 1) t.generation) (omega (arith, long, k.sealed, t.next)) boxes
        (tied-still start steps r p q' t (WentLive runner) tt rest.0 rest.1 boxes) live-accord)

    pub went-live-keeps : KeepsCommitted start (steps ++ step 0 (WentLive runner) ∷ []) now q
    went-live-keeps =
        live-keeps start steps r now p q c 0 (ap (λ (y : Record). is_alone y.mode) is)
        (ap (λ (y : Record). y.window.to_commit) is) runner
