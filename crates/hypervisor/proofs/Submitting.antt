-- What a submit does, by what the book promises of it. The laws of lower crates come as premises, since functions of theirs promise them.
use Rattle.std.proofs.Common.{◌≡◌, ℕ, zero, suc, ◌<◌, ◌*◌, Bool, true, false, cond, List, [], ◌∷◌, ◌++◌, length, map, refl, sym, ap, ◌∙◌}
use Rattle.std.proofs.Common.{subst, arith, Some}
use Rattle.std.proofs.lemmas.List.{append_cancel_right}
use Rattle.std.specs.Prelude.{not, nat_le}
use Rattle.std.specs.List.{Contains}
use Rattle.frame_ports.specs.Ports.{PortsState}
use Rattle.guest_rules.specs.Guest.{Guest, State}
use Rattle.guest_rules.specs.Limits.{page_bytes}
use Rattle.epoch_snapshot.specs.{Bases.IsBase, Checkpoints.Change}
use Rattle.pair_history.specs.Entries.{Entry, Frame, Arrive}
use Rattle.pair_history.specs.HistoryState.{HistoryState, at, sent_along}
use Rattle.pair_record.specs.declared.event.Refusal.{Refusal}
use Rattle.pair_record.specs.declared.event.Refusal.TheVariants.{Stopped, Behind, Exhausted}
use Rattle.pair_record.specs.EpochActs.{guest_epoch, behind}
use Rattle.pair_record.specs.Limits.{most_pending}
use Rattle.pair_record.specs.Protocol.{Record, Row, first_refusal}
use Rattle.growing_history.specs.LogState.{LogState, LegalSteps, Needs, MayStep, state_at, sealed_state, after_step}
use Rattle.growing_history.specs.SealedTexts.{Makes as TextMakes}
use Rattle.growing_history.specs.Steps.{What, Step, step, Begins, steps_by}
use Rattle.growing_history.specs.Views.{Member}
use Rattle.growing_history.specs.laws.Prefixes.{steps_by-own}
use Rattle.pair_book.specs.Books.{BookState}
use Rattle.pair_book.specs.Calls.{Makes, IsWhy, is_word_full}
use Rattle.pair_book.specs.declared.prepared.Prepared.{Prepared}
use Rattle.pair_book.specs.declared.prepared.Prepared.TheVariants as prepared
use Rattle.pair_book.specs.declared.runner.Kind.{Kind}
use Rattle.pair_book.specs.declared.runner.Kind.TheVariants.{Nothing, Delta, Full}
use Rattle.pair_book.specs.Handing.{Handing, handing, HandsBehind, HandsNext}
use Rattle.pair_book.specs.Made.{IsShape, Reads, carried, IsPrepared}
use Rattle.pair_book.specs.Packets.{PacketState}
use Rattle.pair_book.specs.Running.{may_run}
use Rattle.pair_book.specs.Settled as book
use Rattle.pair_book.specs.Settled.{Runs, Follows, epoch_of, numbers_of, settled_runner}
use Rattle.pair_book.specs.Submitting.{protocol_ended, ended, ended_rows, prepared_rows, submit_why, told_as, epoch_told, wanted_kind}
use Rattle.pair_book.specs.laws.EpochWords.{epoch-is, behind-arrivals}
use Rattle.hypervisor.specs.Preparing.{Carries, Suits}
use Rattle.hypervisor.specs.Refusals.{submit_refusals}
use Rattle.hypervisor.specs.Runners.{RunnerState, IsSized, IsRunner, outside}
use Rattle.hypervisor.specs.Submits.{MakesGuest, AddsRun, Submits}

-- WHAT STANDS PREPARED makes the machine's guest of the one with which the machine was last settled
module _ (start : HistoryState) (m : State) (settled : Guest) (sized : IsSized start m.guest) (base : IsBase m settled) where
  of-shape : (c : Change) → length m.guest.ram ≡ page_bytes * c.shape.pages → length m.guest.sectors ≡ 512 * c.shape.sectors
      → IsShape start c.shape
  of-shape c pages sectors = record { ram = sym sized.ram ∙ pages; sectors = sym sized.sectors ∙ sectors }

  carried-makes : (n : ℕ) (p : PacketState) → Carries m n p → TextMakes (Reads start) n p.text (carried n m.outbox) settled m.guest
  carried-makes zero p h =
      λ from. record {
        change = h.change;
        reads_back = h.reads_back;
        of_shape = of-shape h.change h.cut.pages_size h.cut.sectors_size;
        carries = h.cut.frames;
        makes = h.image from;
      }
  carried-makes (suc n) p h = record {
    change = h.change;
    reads_back = h.reads_back;
    of_shape = of-shape h.change h.cut.pages_size h.cut.sectors_size;
    carries = h.cut.frames;
    makes = h.image settled base;
  }

  pub prepared-makes : (what : Prepared) → Suits m what → MakesGuest start settled m what
  prepared-makes prepared.Nothing suits = tt
  prepared-makes (prepared.Checkpoint p) suits = carried-makes p.number p suits

-- a text of a runner's machine is what it has to prepare
abbrev pub PreparedLaw : Type 0
PreparedLaw = (start : HistoryState) (seat : Member) (x : book.RunnerOutside) (c : PacketState) → Runs start seat x
    → TextMakes (Reads start) c.number c.text (carried c.number x.outbox) x.settled x.guest
    → IsPrepared start seat x.arrivals x.steps x.outbox (prepared.Checkpoint c)

pub brings-prepared : (start : HistoryState) (r : RunnerState) (is : IsRunner start r) (what : Prepared) → PreparedLaw
    → Suits r.machine what → IsPrepared start r.seat r.arrivals r.steps r.machine.outbox what
brings-prepared start r is prepared.Nothing law suits = λ live. tt
brings-prepared start r is (prepared.Checkpoint c) law suits =
    law start r.seat (outside r is.runs.settled) c is.runs.runs
    (prepared-makes start r.machine is.runs.settled is.sized is.runs.base (prepared.Checkpoint c) suits)

-- a runner runs on where its seat looks
abbrev pub LookLaw : Type 0
LookLaw = (start : HistoryState) (seat : Member) (now : List Step) (x : book.RunnerOutside) → Begins seat.steps now → LegalSteps start now
    → steps_by seat.number now ≡ steps_by seat.number seat.steps → Runs start seat x
    → Runs start (record { number = seat.number; steps = now }) x

-- THE STEP is told
module _ (start : HistoryState) (r : RunnerState) (is : IsRunner start r) (b b' : BookState) (seat' : Member)
    (made : Makes (epoch_told b r.arrivals r.steps r.what) b b' r.seat seat') (legal : LegalSteps start b.steps) (legal' : LegalSteps start seat'.steps)
    (running : b.protocol.journal.running ≡ map Arrive (state_at start b.steps).handed)
    (needed : (h : HistoryState) (xs : List Step) (x : Step) → LegalSteps h (xs ++ x ∷ []) → Needs (state_at h xs) x)
    (goes-on : (h : HistoryState) (xs : List Step) (x : Step) → state_at h (xs ++ x ∷ []) ≡ after_step (state_at h xs) x.what)
    (look : LookLaw) where
  abbrev s : LogState
  s = state_at start b.steps

  abbrev epoch : List Entry
  epoch = guest_epoch r.arrivals r.steps b.protocol.journal.running

  abbrev what : What
  what = told_as r.what epoch

  abbrev one : Step
  one = step r.seat.number what

  abbrev x : book.RunnerOutside
  x = outside r is.runs.settled

  grown : seat'.steps ≡ b.steps ++ one ∷ []
  grown = ap (λ (m : Member). m.steps) made.sees ∙ made.steps

  own : steps_by r.seat.number b.steps ≡ steps_by r.seat.number r.seat.steps
  own =
      append_cancel_right (steps_by r.seat.number b.steps) (steps_by r.seat.number r.seat.steps) (one ∷ [])
      (sym (steps_by-own r.seat.number b.steps one refl) ∙ ap (steps_by r.seat.number) (sym made.steps) ∙ made.own)

  now : Runs start (record { number = r.seat.number; steps = b.steps }) x
  now = look start r.seat b.steps x made.saw legal own is.runs.runs

  live : r.seat.number ≡ s.runner
  live = by_what r.what (needed start b.steps one (subst (LegalSteps start) grown legal')).may
    where
      by_what : (w : Prepared) → MayStep s r.seat.number (told_as w epoch) → r.seat.number ≡ s.runner
      by_what prepared.Nothing may = may.0
      by_what (prepared.Checkpoint c) may = may.0

  epoch-here : epoch ≡ epoch_of s.handed r.arrivals r.steps
  epoch-here = epoch-is s.handed r.arrivals r.steps b.protocol.journal.running running

  adds-here : AddsRun start s epoch r
  adds-here = record {
    live = live;
    is = epoch-here;
    guest = λ none. ap (λ (es : List Entry). (at (sealed_state s) es).guest) epoch-here ∙ sym (now.follows (sym live) none).guest;
    sent = λ none. ap (sent_along (sealed_state s)) epoch-here ∙ sym (now.follows (sym live) none).outbox;
    makes = λ none.
        subst (λ (g : Guest). MakesGuest start g r.machine r.what) (now.follows (sym live) none).settled
        (prepared-makes start r.machine is.runs.settled is.sized is.runs.base r.what is.prepared);
  }

  pub submits : Submits start r seat'
  submits = record {
    epoch = epoch;
    step = record {
      legal = legal';
      seen = (made.saw.0, grown ∙ ap (λ (xs : List Step). xs ++ one ∷ []) made.saw.1);
      own = ap (λ (xs : List Step). steps_by r.seat.number xs) (ap (λ (m : Member). m.steps) made.sees) ∙ made.own;
    };
    run = subst (λ (xs : List Step). AddsRun start (state_at start xs) epoch r) made.saw.1 adds-here;
  }

  -- WHAT IS HANDED OUT
  module _ (q : PortsState) (p : Record) (xs : List (ℕ × Frame))
      (hands : HandsNext (ended b r.arrivals r.steps r.machine.outbox) (handing p q xs)) where
    abbrev h : Handing
    h = ended b r.arrivals r.steps r.machine.outbox

    still-runs : h.protocol.journal.running ≡ map Arrive (numbers_of r.held)
    still-runs =
        by_kind (wanted_kind b)
        ∙ ap (behind r.arrivals) running
        ∙ behind-arrivals r.arrivals s.handed
        ∙ ap (map Arrive) (sym (now.holds (sym live)))
      where
        by_kind : (kind : Kind) → (protocol_ended kind r.arrivals r.steps r.machine.outbox b.protocol b.ports).journal.running
            ≡ behind r.arrivals b.protocol.journal.running
        by_kind Nothing = refl
        by_kind Delta = refl
        by_kind Full = refl

    -- nothing where the runner holds some
    pub none-behind : 0 < length r.held → xs ≡ []
    none-behind some = by_held r.held some (subst (λ (es : List Entry). HandsBehind es h (handing p q xs)) still-runs hands)
      where
        by_held : (ps : List (ℕ × Frame)) → 0 < length ps → HandsBehind (map Arrive (numbers_of ps)) h (handing p q xs) → xs ≡ []
        by_held [] low same = absurd (omega (arith, low))
        by_held (y ∷ ps) low same = ap (λ (g : Handing). g.frames) same

  -- where it is live then, what it holds is what is handed out
  pub holds-handed : (guest : Guest) (held : List (ℕ × Frame)) → Runs start seat' (settled_runner guest held)
      → numbers_of held ≡ (state_at start seat'.steps).handed
  holds-handed guest held then =
      then.holds
      (ap (λ (l : List Step). (state_at start l).runner) grown
      ∙ ap (λ (u : LogState). u.runner) (goes-on start b.steps one)
      ∙ stays r.what
      ∙ sym live
      ∙ sym (ap (λ (m : Member). m.number) made.sees))
    where
      stays : (w : Prepared) → (after_step s (told_as w epoch)).runner ≡ s.runner
      stays prepared.Nothing = refl
      stays (prepared.Checkpoint c) = refl

-- WHY it is refused
abbrev AreIn : List Row → Type 0
AreIn [] = Unit {0}
AreIn (row ∷ rows) = Contains submit_refusals row.1 × AreIn rows

by-rows : (rows : List Row) (why : Refusal) → AreIn rows → IsWhy (first_refusal rows) why → Contains submit_refusals why
by-rows [] why all e = (6, omega arith, sym e)
by-rows (row ∷ rows) why all e = by_test row.0 (by-rows rows why all.1) e
  where
    by_test : (t : Bool) → (IsWhy (first_refusal rows) why → Contains submit_refusals why)
        → IsWhy (cond t (Some row.1) (first_refusal rows)) why → Contains submit_refusals why
    by_test true more e = subst (Contains submit_refusals) (sym e) all.0
    by_test false more e = more e

is-exhausted : Contains submit_refusals Exhausted
is-exhausted = (5, omega arith, refl)

ends-in : (kind : Kind) (steps : ℕ) (fs : List Frame) (r : Record) (p : PortsState) → AreIn (ended_rows kind steps fs r p)
ends-in Nothing steps fs r p = (is-exhausted, (is-exhausted, tt))
ends-in Delta steps fs r p = (is-exhausted, (is-exhausted, (is-exhausted, tt)))
ends-in Full steps fs r p = (is-exhausted, (is-exhausted, tt))

module _ (start : HistoryState) (b : BookState) (number : ℕ) (w : Prepared) (steps : ℕ) (fs : List Frame) where
  abbrev rows : List Row
  rows =
      (not (may_run start b number), Stopped)
      ∷ (nat_le most_pending (length b.protocol.pending), Behind)
      ∷ prepared_rows b.protocol w
      ++ (is_word_full b, Exhausted)
      ∷ ended_rows (wanted_kind b) steps fs b.protocol b.ports

  are-in : AreIn rows
  are-in =
      let ends = ends-in (wanted_kind b) steps fs b.protocol b.ports in (
        (0, omega arith, refl),
        ((1, omega arith, refl), ((2, omega arith, refl), ((3, omega arith, refl), ((4, omega arith, refl), (is-exhausted, ends))))),
      )

  pub submit-why : (why : Refusal) → IsWhy (submit_why start b number w steps fs) why → Contains submit_refusals why
  submit-why why e = by-rows rows why are-in e
