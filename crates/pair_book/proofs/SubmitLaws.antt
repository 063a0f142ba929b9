-- A submit that isn't refused: what the live runner knew is still so, and whatever was wanted keeps the tie.
use Rattle.std.proofs.Common.{◌≡◌, ℕ, zero, suc, ◌+◌, ◌<◌, ◌≤◌, List, [], ◌∷◌, ◌++◌, length, map, take, drop, replicate, refl, sym, ap, ◌∙◌}
use Rattle.std.proofs.Common.{subst, append_assoc, arith, Bool, true, false, None, inl, inr}
use Rattle.std.proofs.lemmas.List.{length-append, length-replicate, length-map, nil_from_length}
use Rattle.std.specs.Prelude.{◌==◌, ◌&&◌, not, min, ◌⊎◌}
use Rattle.failover.specs.declared.mode.Mode.{Mode}
use Rattle.failover.specs.declared.mode.Mode.TheVariants as modes
use Rattle.frame_ports.specs.{Limits.number_limit, Ports.PortsState, Addresses.targets_of}
use Rattle.pair_history.specs.Entries.{Frame, Entry, Arrive, Ran}
use Rattle.pair_history.specs.HistoryState.{HistoryState, at, sent_along}
use Rattle.pair_history.specs.Failures.{arrived_numbers}
use Rattle.pair_history.specs.Landings.{landings}
use Rattle.frame_ports.specs.laws.Lands.{length-lands}
use Rattle.pair_history.specs.laws.Waits.{arrived_numbers-arrivals}
use Rattle.pair_record.specs.EpochActs.{guest_epoch, behind}
use Rattle.pair_record.specs.Journal.{joined}
use Rattle.pair_record.specs.Modes.{is_alone, is_stopped}
use Rattle.pair_record.specs.Protocol.{Record}
use Rattle.pair_record.specs.Record.{IsRecord, IsLone, SuitsMode, AreNumbered}
use Rattle.pair_record.specs.laws.{Records.none_yet, Tables.{passed, same_generation}}
use Rattle.std.proofs.lemmas.Bool.{leb-false}
use Rattle.pair_record.specs.{Limits.most_pending, Window.with_cut}
use Rattle.growing_history.specs.Steps.{Step, step, Begins, Sealed, RanAlone}
use Rattle.growing_history.specs.LogState.{LogState, state_at, sealed_state, LegalSteps, IsEpoch, HasBackup, IsAlone, MaySeal}
use Rattle.growing_history.specs.Views.{Member}
use Rattle.growing_history.specs.SealedTexts.{IsMade}
use Rattle.growing_history.specs.laws.Logs.{live-rise, marks-rise}
use Rattle.growing_history.specs.laws.Texts.{makes-same}
use Rattle.pair_book.specs.declared.prepared.Prepared.{Prepared}
use Rattle.pair_book.specs.declared.prepared.Prepared.TheVariants as prepared
use Rattle.pair_book.specs.declared.runner.Kind.{Kind}
use Rattle.pair_book.specs.declared.runner.Kind.TheVariants.{Nothing, Delta, Full}
use Rattle.pair_book.specs.{Books.BookState, Made.{Reads, carried, MakesEpoch, IsPrepared}, Packets.PacketState}
use Rattle.pair_book.specs.Handing.{Handing, handing, handed_next, handed_behind, HandsNext}
use Rattle.pair_book.specs.Running.{kind_wanted}
use Rattle.pair_book.specs.Settled.{EpochFollows, epoch_of}
use Rattle.pair_book.specs.Submitting.{protocol_ended, ports_ended, texts_ended, ended_as, ended, wanted_kind, told_as, epoch_told}
use Rattle.pair_book.specs.Submitting.{submit_why, is_checkpoint, is_other}
use Rattle.pair_book.specs.internal.{Committed.KeepsCommitted, Texts.HasTexts, Tie.IsTied}
use Rattle.pair_book.specs.internal.Told.{last_of, entered_there, sealed_there, epoch_there, found}
use Rattle.pair_book.specs.laws.EpochWords.{own-epoch, epoch-is}
use Rattle.pair_book.proofs.HandingLaws.{hands-firsts}
use Rattle.pair_book.proofs.HandedNext.{hands-behind}
use Rattle.pair_book.proofs.{CommittedHanding.behind-keeps, CommittedSeals.{sealed-keeps, full-keeps, lone-keeps}}
use Rattle.pair_book.proofs.TextLaws.{texts-after, texts-once-sealed, as-many}
use Rattle.pair_book.proofs.MadeLaws.{none-before, sealed-made}
use Rattle.pair_book.proofs.SubmitTies.{sealed-tied, alone-tied, full-tied}
use Rattle.pair_book.proofs.Words.{word_room}
use Rattle.failover.specs.Modes.{is_filling}

-- WHAT THE LIVE RUNNER KNEW when its seat last looked
module _ (start : HistoryState) (seat : Member) (log : List Step) (arrivals ran : ℕ) (fs : List Frame)
    (settled : EpochFollows start seat arrivals ran fs) (begins : Begins seat.steps log) (legal : LegalSteps start log)
    (live : seat.number ≡ (state_at start log).runner)
    (handed-law : (state_at start seat.steps).runner ≡ seat.number → (state_at start log).runner ≡ seat.number
    → (state_at start log).handed ≡ (state_at start seat.steps).handed)
    (epoch-law : (state_at start seat.steps).runner ≡ seat.number → (state_at start log).runner ≡ seat.number
    → (state_at start log).marked ≡ 0 → (epoch : List Entry) → IsEpoch (state_at start seat.steps) epoch
    → ((at (sealed_state (state_at start log)) epoch).guest ≡ (at (sealed_state (state_at start seat.steps)) epoch).guest)
    × (sent_along (sealed_state (state_at start log)) epoch ≡ sent_along (sealed_state (state_at start seat.steps)) epoch)) where
  abbrev was-state : LogState
  was-state = state_at start seat.steps

  abbrev is-state : LogState
  is-state = state_at start log

  was : was-state.runner ≡ seat.number
  was = let rise = live-rise start seat.steps log begins legal in omega (arith, settled.born, rise.0, live)

  still : is-state.handed ≡ was-state.handed
  still = handed-law was (sym live)

  pub held-now : arrivals ≤ length is-state.handed
  held-now = let some = settled.held was in let same = ap length still in omega (arith, some, same)

  pub sent-now : is-state.marked ≡ 0 → fs ≡ sent_along (sealed_state is-state) (epoch_of is-state.handed arrivals ran)
  sent-now none =
      let rise = marks-rise start seat.steps log begins in
      let unmarked : was-state.marked ≡ 0 = omega (arith, rise, none) in
      settled.sent was unmarked
      ∙ sym (epoch-law was (sym live) none (epoch_of was-state.handed arrivals ran)
      (own-epoch was-state.handed arrivals ran was-state refl)).1
      ∙ ap (λ (hs : List ℕ). sent_along (sealed_state is-state) (epoch_of hs arrivals ran)) (sym still)

  -- what was prepared there makes the epoch here
  pub makes-now : (what : Prepared) → IsPrepared start seat arrivals ran fs what → MakesEpoch start is-state arrivals ran fs what
  makes-now prepared.Nothing made = tt
  makes-now (prepared.Checkpoint c) made =
      λ none.
      let rise = marks-rise start seat.steps log begins in
      let unmarked : was-state.marked ≡ 0 = omega (arith, rise, none) in
      let law = epoch-law was (sym live) none in
      let own = epoch_of was-state.handed arrivals ran in
      let far = sealed_state is-state in
      makes-same (Reads start) c.number c.text (carried c.number fs) (carried c.number fs)
      (sealed_state was-state).guest far.guest
      (at (sealed_state was-state) own).guest (at far (epoch_of is-state.handed arrivals ran)).guest refl
      (sym (law [] (tt, (was-state.handed, refl))).0)
      (sym (law own (own-epoch was-state.handed arrivals ran was-state refl)).0
      ∙ ap (λ (hs : List ℕ). (at far (epoch_of hs arrivals ran)).guest) (sym still))
      (made was unmarked)

-- WHERE NO ROW HOLDS

may : (s t : Bool) → not (s && not t) ≡ false → (not s ≡ false) × (t ≡ false)
may true true e = absurd (cc)
may true false e = (refl, refl)
may false t e = absurd (cc)

none-there : (a : Bool) → not a && not false ≡ false → a ≡ true
none-there true e = refl
none-there false e = absurd (cc)

one-there : (a : Bool) → a && true ≡ false → a ≡ false
one-there true e = absurd (cc)
one-there false e = refl

both : (s t : Bool) → not (s && t) ≡ false → (not s ≡ false) × (not t ≡ false)
both true true e = (refl, refl)
both true false e = absurd (cc)
both false t e = absurd (cc)

-- what was prepared is what is wanted
abbrev pub Suits : Record → Prepared → Type 0
Suits r prepared.Nothing = is_alone r.mode ≡ true
Suits r (prepared.Checkpoint c) = (is_alone r.mode ≡ false) × (c.generation ≡ r.generation) × (c.number ≡ r.window.to_cut)

suits : (r : Record) (what : Prepared) → is_alone r.mode && is_checkpoint what ≡ false
    → not (is_alone r.mode) && not (is_checkpoint what) ≡ false → is_other r what ≡ false → Suits r what
suits r prepared.Nothing a b o = none-there (is_alone r.mode) b
suits r (prepared.Checkpoint c) a b o =
    let same = both (c.generation == r.generation) (c.number == r.window.to_cut) o in (
      one-there (is_alone r.mode) a,
      same_generation c.generation r.generation same.0,
      same_generation c.number r.window.to_cut same.1,
    )

pub record Free (start : HistoryState) (b : BookState) (by : ℕ) (what : Prepared) : Type 0 where
  pub live : by ≡ (state_at start b.steps).runner
  pub runs : is_stopped b.protocol.mode ≡ false
  pub suit : Suits b.protocol what
  pub word : length b.steps < number_limit
  pub few : length b.protocol.pending < most_pending

pub is-free : (start : HistoryState) (b : BookState) (by : ℕ) (what : Prepared) (ran : ℕ) (fs : List Frame)
    → submit_why start b by what ran fs ≡ None → Free start b by what
is-free start b by what ran fs e =
    let one = passed _ _ _ e in
    let two = passed _ _ _ one.1 in
    let three = passed _ _ _ two.1 in
    let four = passed _ _ _ three.1 in
    let five = passed _ _ _ four.1 in
    let six = passed _ _ _ five.1 in
    let run = may (by == (state_at start b.steps).runner) (is_stopped b.protocol.mode) one.0 in
    record {
      live = same_generation by (state_at start b.steps).runner run.0;
      runs = run.1;
      suit = suits b.protocol what three.0 four.0 five.0;
      word = word_room b six.0;
      few = leb-false most_pending (length b.protocol.pending) two.0;
    }

-- WHICH KIND is wanted, where the primary hasn't stopped

pub alone-mode : (m : Mode) → is_alone m ≡ true → m ≡ modes.Alone
alone-mode modes.Alone e = refl
alone-mode other e = absurd (cc)

pub record IsFull (m : Mode) (n : ℕ) : Type 0 where
  pub kind : kind_wanted m n ≡ Full
  pub number : n ≡ 0
  pub filling : is_filling m ≡ true
  pub may : MaySeal 0 m

pub record IsDelta (m : Mode) (n : ℕ) : Type 0 where
  pub kind : kind_wanted m n ≡ Delta
  pub before : ℕ
  pub number : n ≡ suc before
  pub pair : HasBackup m

which : (m : Mode) (n : ℕ) → is_alone m ≡ false → is_stopped m ≡ false → (m ≡ modes.Paired → 1 ≤ n) → IsFull m n ⊎ IsDelta m n
which modes.Alone n a s l = absurd (cc)
which modes.Stopped n a s l = absurd (cc)
which modes.Filling zero a s l = inl (record { kind = refl; number = refl; filling = refl; may = tt })
which modes.Filling (suc n) a s l = inr (record { kind = refl; before = n; number = refl; pair = tt })
which modes.Paired zero a s l = let no = l refl in absurd (omega (arith, no))
which modes.Paired (suc n) a s l = inr (record { kind = refl; before = n; number = refl; pair = tt })

-- THE STEP, as the record has the epoch

take-ahead : {A : Type 0} (xs ys : List A) → take (length xs) (xs ++ ys) ≡ xs
take-ahead [] ys = refl
take-ahead (x ∷ xs) ys = ap (λ l. x ∷ l) (take-ahead xs ys)

drop-ahead : {A : Type 0} (xs ys : List A) → drop (length xs) (xs ++ ys) ≡ ys
drop-ahead [] ys = refl
drop-ahead (x ∷ xs) ys = drop-ahead xs ys

last-push : (ess : List (List Entry)) (es : List Entry) → last_of (ess ++ es ∷ []) ≡ es
last-push [] es = refl
last-push (fs ∷ []) es = refl
last-push (fs ∷ gs ∷ ess) es = last-push (gs ∷ ess) es

length-taken : (n : ℕ) (ns : List ℕ) → n ≤ length ns → length (take n ns) ≡ n
length-taken zero ns l = refl
length-taken (suc n) [] l = absurd (omega (arith, l))
length-taken (suc n) (k ∷ ns) l = ap suc (length-taken n ns (omega (arith, l)))

-- handing out leaves the history and what is sealed
behind-journal : (es : List Entry) (h : Handing) → length h.ports.inboxes ≡ length h.ports.boxes
    → ((handed_behind es h).protocol.journal.history ≡ h.protocol.journal.history)
    × ((handed_behind es h).protocol.journal.sealed ≡ h.protocol.journal.sealed)
behind-journal [] h same =
    let out = (hands-firsts (length h.ports.boxes) 1 h (omega arith) (omega (arith, same))).out.protocol in
    (ap (λ (r : Record). r.journal.history) out, ap (λ (r : Record). r.journal.sealed) out)
behind-journal (e ∷ es) h same = (refl, refl)

behind-numbers : (es : List Entry) (h : Handing) → length h.ports.inboxes ≡ length h.ports.boxes
    → ((handed_behind es h).protocol.generation ≡ h.protocol.generation) × ((handed_behind es h).protocol.window ≡ h.protocol.window)
behind-numbers [] h same =
    let out = (hands-firsts (length h.ports.boxes) 1 h (omega arith) (omega (arith, same))).out.protocol in
    (ap (λ (r : Record). r.generation) out, ap (λ (r : Record). r.window) out)
behind-numbers (e ∷ es) h same = (refl, refl)

module _ (start : HistoryState) (b : BookState) (t : IsTied start b.steps b.protocol b.ports)
    (keeps : KeepsCommitted start b.steps b.protocol b.ports) (had : HasTexts start b.steps b.protocol b.texts.packets)
    (k : IsRecord b.protocol) (numbered : AreNumbered b.protocol b.ports) (by : ℕ) (what : Prepared)
    (free : Free start b by what) (arrivals ran : ℕ) (fs : List Frame)
    (held : arrivals ≤ length (state_at start b.steps).handed)
    (sent : (state_at start b.steps).marked ≡ 0
    → fs ≡ sent_along (sealed_state (state_at start b.steps)) (epoch_of (state_at start b.steps).handed arrivals ran))
    (made : MakesEpoch start (state_at start b.steps) arrivals ran fs what)
    (now : Record) (q : PortsState) (xs : List (ℕ × Frame)) (is : handing now q xs ≡ handed_next (ended b arrivals ran fs))
    (long : length (ended b arrivals ran fs).ports.inboxes ≡ length (ended b arrivals ran fs).ports.boxes) where
  abbrev r : Record
  r = b.protocol

  abbrev epoch : List Entry
  epoch = guest_epoch arrivals ran r.journal.running

  abbrev before : ℕ
  before = length r.journal.history

  abbrev log : Step → List Step
  log x = b.steps ++ x ∷ []

  epoch-long : length epoch ≡ arrivals + ran
  epoch-long =
      let hs = (state_at start b.steps).handed in
      ap length (epoch-is hs arrivals ran r.journal.running t.running)
      ∙ length-append (map Arrive (take arrivals hs)) (replicate ran Ran)
      ∙ (λ i. (length-map (take arrivals hs) (λ (n : ℕ). Arrive n) ∙ length-taken arrivals hs held) i + length-replicate ran Ran i)

  -- by the kind that is wanted
  ended-by : (kind : Kind) → wanted_kind b ≡ kind → handing now q xs ≡ handed_next (ended_as kind arrivals ran fs r b.ports)
  ended-by kind e = is ∙ ap (λ (x : Kind). handed_next (ended_as x arrivals ran fs r b.ports)) e

  kept : (now.journal.history ≡ (ended b arrivals ran fs).protocol.journal.history)
      × (now.journal.sealed ≡ (ended b arrivals ran fs).protocol.journal.sealed)
  kept =
      let h = ended b arrivals ran fs in
      let same = behind-journal h.protocol.journal.running h long in (
        ap (λ (x : Handing). x.protocol.journal.history) is ∙ same.0,
        ap (λ (x : Handing). x.protocol.journal.sealed) is ∙ same.1,
      )

  kept-by : (kind : Kind) → wanted_kind b ≡ kind
      → (now.journal.history ≡ (protocol_ended kind arrivals ran fs r b.ports).journal.history)
      × (now.journal.sealed ≡ (protocol_ended kind arrivals ran fs r b.ports).journal.sealed)
  kept-by kind e = (
    kept.0 ∙ ap (λ (x : Kind). (protocol_ended x arrivals ran fs r b.ports).journal.history) e,
    kept.1 ∙ ap (λ (x : Kind). (protocol_ended x arrivals ran fs r b.ports).journal.sealed) e,
  )

  numbers-by : (kind : Kind) → wanted_kind b ≡ kind
      → (now.generation ≡ (protocol_ended kind arrivals ran fs r b.ports).generation)
      × (now.window ≡ (protocol_ended kind arrivals ran fs r b.ports).window)
  numbers-by kind e =
      let h = ended b arrivals ran fs in
      let same = behind-numbers h.protocol.journal.running h long in (
        ap (λ (x : Handing). x.protocol.generation) is ∙ same.0
            ∙ ap (λ (x : Kind). (protocol_ended x arrivals ran fs r b.ports).generation) e,
        ap (λ (x : Handing). x.protocol.window) is ∙ same.1 ∙ ap (λ (x : Kind). (protocol_ended x arrivals ran fs r b.ports).window) e,
      )

  kept-committed : (kind : Kind) → wanted_kind b ≡ kind → (xs : List Step)
      → KeepsCommitted start xs (protocol_ended kind arrivals ran fs r b.ports) (ports_ended kind fs r b.ports)
      → KeepsCommitted start xs now q
  kept-committed kind e xs c =
      let h = ended_as kind arrivals ran fs r b.ports in
      let same =
      subst
      (λ (x : Kind). length (ended_as x arrivals ran fs r b.ports).ports.inboxes ≡ length (ended_as x arrivals ran fs r b.ports).ports.boxes)
      e long in
      subst (λ (x : Handing). KeepsCommitted start xs x.protocol x.ports) (sym (ended-by kind e))
      (behind-keeps start xs h same h.protocol.journal.running c)

  -- where it entered the history
  entered-found : IsLone r → now.journal.history
      ≡ (r.journal.history ++ (joined r.journal.sealed ++ epoch)) ++ landings b.ports.boxes (targets_of (length b.ports.boxes) fs)
      → entered_there now.journal before arrivals ran ≡ epoch
  entered-found lone grown =
      let landed = landings b.ports.boxes (targets_of (length b.ports.boxes) fs) in
      let parts : now.journal.history ≡ r.journal.history ++ (epoch ++ landed) =
      grown
      ∙ (λ i. (r.journal.history ++ (joined (lone.0 i) ++ epoch)) ++ landed)
      ∙ append_assoc r.journal.history epoch landed in
      ap (λ l. take (arrivals + ran) (drop before l)) parts
      ∙ ap (take (arrivals + ran)) (drop-ahead r.journal.history (epoch ++ landed))
      ∙ ap (λ n. take n (epoch ++ landed)) (sym epoch-long)
      ∙ take-ahead epoch landed

  -- what is so once it was told
  record Done (x : Prepared) : Type 0 where
    pub tied : IsTied start (log (step by (told_as x epoch))) now q
    pub committed : KeepsCommitted start (log (step by (told_as x epoch))) now q
    pub texts : HasTexts start (log (step by (told_as x epoch))) now (texts_ended x b.texts).packets
    pub found : epoch_there x now.journal before arrivals ran ≡ epoch

  paired-some : r.mode ≡ modes.Paired → 1 ≤ r.window.to_cut
  paired-some e =
      let some : 1 ≤ r.window.to_commit = subst (λ (m : Mode). SuitsMode m r.window) e k.suits in
      let cut = k.window.cut in
      omega (arith, some, cut)

  alone-done : is_alone r.mode ≡ true → Done prepared.Nothing
  alone-done alone =
      let mode = alone-mode r.mode alone in
      let kind : wanted_kind b ≡ Nothing = ap (λ (m : Mode). kind_wanted m r.window.to_cut) mode in
      let lone : IsLone r = k.alone alone in
      record {
        tied =
            alone-tied start b.steps r b.ports t k by free.live arrivals ran fs sent lone (subst IsAlone (sym mode) tt) now q xs
            (ended-by Nothing kind);
        committed =
            kept-committed Nothing kind (log (step by (told_as prepared.Nothing epoch)))
            (lone-keeps start b.steps r (protocol_ended Nothing arrivals ran fs r b.ports) b.ports (ports_ended Nothing fs r b.ports)
            keeps by alone refl epoch);
        texts =
            let numbers = numbers-by Nothing kind in
            texts-after had by (RanAlone epoch) refl refl numbers.0 numbers.1;
        found = entered-found lone (kept-by Nothing kind).0;
      }

  module _ (c : PacketState) (suit : Suits r (prepared.Checkpoint c))
      (makes : MakesEpoch start (state_at start b.steps) arrivals ran fs (prepared.Checkpoint c)) where
    text-made : IsMade (Reads start) (state_at start b.steps) (Sealed c.generation c.number epoch c.text)
    text-made =
        sealed-made start (state_at start b.steps) c epoch arrivals ran fs
        (epoch-is (state_at start b.steps).handed arrivals ran r.journal.running t.running)
        (none-before start b.steps t.legal c.number (suit.2 ∙ t.next)) sent makes

    text-pending : (kind : Kind) → wanted_kind b ≡ kind → (protocol_ended kind arrivals ran fs r b.ports).generation ≡ r.generation
        → (protocol_ended kind arrivals ran fs r b.ports).window ≡ with_cut r.window
        → HasTexts start (log (step by (told_as (prepared.Checkpoint c) epoch))) now (b.texts.packets ++ c ∷ [])
    text-pending kind e generation window =
        let numbers = numbers-by kind e in
        texts-once-sealed had k by epoch c suit.1 suit.2 refl (numbers.0 ∙ generation) (numbers.1 ∙ window) refl

    full-done : IsFull r.mode r.window.to_cut → Done (prepared.Checkpoint c)
    full-done full =
        let none = none_yet r k full.filling full.number in
        let sealed : r.journal.sealed ≡ [] =
        let s = k.sealed in let z = full.number in nil_from_length r.journal.sealed (omega (arith, s, z)) in
        let lone : IsLone r = (sealed, none) in
        let number : c.number ≡ 0 = suit.2 ∙ full.number in
        record {
          tied =
              subst (λ (x : ℕ × ℕ). IsTied start (log (step by (Sealed x.0 x.1 epoch c.text))) now q)
              (λ i. (sym suit.1 i, sym number i))
              (full-tied start b.steps r b.ports t k by free.live arrivals ran fs sent lone c.text full.number full.may now q xs
              (ended-by Full full.kind));
          committed =
              kept-committed Full full.kind (log (step by (told_as (prepared.Checkpoint c) epoch)))
              (full-keeps start b.steps r (protocol_ended Full arrivals ran fs r b.ports) b.ports (ports_ended Full fs r b.ports) keeps by
              c.generation c.number epoch c.text text-made (protocol_ended Nothing arrivals ran fs r b.ports) refl lone.1
              (let w = k.window.cut in let z = full.number in omega (arith, w, z)) refl);
          texts = text-pending Full full.kind refl refl;
          found =
              ap (λ n. sealed_there n now.journal before arrivals ran) number ∙ entered-found lone (kept-by Full full.kind).0;
        }

    delta-done : IsDelta r.mode r.window.to_cut → Done (prepared.Checkpoint c)
    delta-done delta =
        let number : c.number ≡ suc delta.before = suit.2 ∙ delta.number in
        record {
          tied =
              subst (λ (x : ℕ × ℕ). IsTied start (log (step by (Sealed x.0 x.1 epoch c.text))) now q)
              (λ i. (sym suit.1 i, sym number i))
              (sealed-tied start b.steps r b.ports t k by free.live arrivals ran fs sent delta.before c.text delta.number delta.pair now
              q xs (ended-by Delta delta.kind));
          committed =
              kept-committed Delta delta.kind (log (step by (told_as (prepared.Checkpoint c) epoch)))
              (sealed-keeps start b.steps r (protocol_ended Delta arrivals ran fs r b.ports) b.ports (ports_ended Delta fs r b.ports)
              keeps by c.generation c.number epoch c.text text-made k.window numbered.held
              (let z = delta.number in omega (arith, z)) suit.0 epoch (behind arrivals r.journal.running) fs refl refl);
          texts = text-pending Delta delta.kind refl refl;
          found =
              ap (λ n. sealed_there n now.journal before arrivals ran) number
              ∙ ap last_of (kept-by Delta delta.kind).1
              ∙ last-push r.journal.sealed epoch;
        }

    checkpoint-done : IsFull r.mode r.window.to_cut ⊎ IsDelta r.mode r.window.to_cut → Done (prepared.Checkpoint c)
    checkpoint-done (inl full) = full-done full
    checkpoint-done (inr delta) = delta-done delta

  done : (x : Prepared) → Suits r x → MakesEpoch start (state_at start b.steps) arrivals ran fs x → Done x
  done prepared.Nothing suit makes = alone-done suit
  done (prepared.Checkpoint c) suit makes =
      checkpoint-done c suit makes (which r.mode r.window.to_cut suit.0 free.runs paired-some)

  pub found-is : found what now.journal before arrivals ran ≡ epoch_told b arrivals ran what
  found-is = ap (told_as what) (done what free.suit made).found

  pub submitted-tied : IsTied start (b.steps ++ step by (found what now.journal before arrivals ran) ∷ []) now q
  submitted-tied = subst (λ x. IsTied start (log (step by x)) now q) (sym found-is) (done what free.suit made).tied

  pub submitted-committed : KeepsCommitted start (b.steps ++ step by (found what now.journal before arrivals ran) ∷ []) now q
  submitted-committed = subst (λ x. KeepsCommitted start (log (step by x)) now q) (sym found-is) (done what free.suit made).committed

  pub submitted-texts : HasTexts start (b.steps ++ step by (found what now.journal before arrivals ran) ∷ []) now
      (texts_ended what b.texts).packets
  submitted-texts =
      subst (λ x. HasTexts start (log (step by x)) now (texts_ended what b.texts).packets) (sym found-is) (done what free.suit made).texts

  pub hands-next : HandsNext (ended b arrivals ran fs) (handing now q xs)
  hands-next =
      let h = ended b arrivals ran fs in
      subst (HandsNext h) (sym is) (hands-behind h.protocol.journal.running h long)

-- the ports have as many inboxes as boxes then
pub ended-inboxes : (kind : Kind) (arrivals steps : ℕ) (fs : List Frame) (r : Record) (p : PortsState) → length p.inboxes ≡ length p.boxes
    → length (ended_as kind arrivals steps fs r p).ports.inboxes ≡ length (ended_as kind arrivals steps fs r p).ports.boxes
ended-inboxes Nothing arrivals steps fs r p same = same ∙ sym (length-lands p.boxes (targets_of (length p.boxes) fs))
ended-inboxes Delta arrivals steps fs r p same = same
ended-inboxes Full arrivals steps fs r p same = same ∙ sym (length-lands p.boxes (targets_of (length p.boxes) fs))

-- a runner names no more than were handed out, and what runs is their arrivals
pub came-all : (start : HistoryState) (steps : List Step) (r : Record) (p : PortsState) → IsTied start steps r p → (arrivals came : ℕ)
    → arrivals ≤ length (state_at start steps).handed → came ≡ min arrivals (length (arrived_numbers r.journal.running)) → came ≡ arrivals
came-all start steps r p t arrivals came held is =
    let count : length (arrived_numbers r.journal.running) ≡ length (state_at start steps).handed =
    ap (λ (es : List Entry). length (arrived_numbers es)) t.running ∙ ap length (arrived_numbers-arrivals (state_at start steps).handed) in
    omega (arith, held, is, count)

pub only-arrivals : (start : HistoryState) (steps : List Step) (r : Record) (p : PortsState) → IsTied start steps r p
    → r.journal.running ≡ map Arrive (arrived_numbers r.journal.running)
only-arrivals start steps r p t =
    t.running
    ∙ ap (map Arrive) (sym (arrived_numbers-arrivals (state_at start steps).handed))
    ∙ ap (λ (es : List Entry). map Arrive (arrived_numbers es)) (sym t.running)

-- ALL OF IT, of a seat that was settled when it last looked
pub record Submitted (start : HistoryState) (b : BookState) (by : ℕ) (what : Prepared) (arrivals ran came : ℕ) (fs : List Frame)
    (now : Record) (q : PortsState) (xs : List (ℕ × Frame)) : Type 0 where
  pub tied : IsTied start (b.steps ++ step by (found what now.journal (length b.protocol.journal.history) came ran) ∷ []) now q
  pub committed : KeepsCommitted start (b.steps ++ step by (found what now.journal (length b.protocol.journal.history) came ran) ∷ []) now q
  pub texts : HasTexts start (b.steps ++ step by (found what now.journal (length b.protocol.journal.history) came ran) ∷ []) now
      (texts_ended what b.texts).packets
  pub few : length b.texts.packets < most_pending
  pub told-is : found what now.journal (length b.protocol.journal.history) came ran ≡ epoch_told b arrivals ran what
  pub hands : HandsNext (ended b arrivals ran fs) (handing now q xs)
  pub word : length b.steps < number_limit

module _ (start : HistoryState) (b : BookState) (t : IsTied start b.steps b.protocol b.ports)
    (keeps : KeepsCommitted start b.steps b.protocol b.ports) (had : HasTexts start b.steps b.protocol b.texts.packets)
    (k : IsRecord b.protocol) (numbered : AreNumbered b.protocol b.ports) (seat : Member) (what : Prepared)
    (arrivals ran came : ℕ) (fs : List Frame) (settled : EpochFollows start seat arrivals ran fs)
    (made : IsPrepared start seat arrivals ran fs what)
    (why : submit_why start b seat.number what ran fs ≡ None) (begins : Begins seat.steps b.steps)
    (handed-law : (state_at start seat.steps).runner ≡ seat.number → (state_at start b.steps).runner ≡ seat.number
    → (state_at start b.steps).handed ≡ (state_at start seat.steps).handed)
    (epoch-law : (state_at start seat.steps).runner ≡ seat.number → (state_at start b.steps).runner ≡ seat.number
    → (state_at start b.steps).marked ≡ 0 → (epoch : List Entry) → IsEpoch (state_at start seat.steps) epoch
    → ((at (sealed_state (state_at start b.steps)) epoch).guest ≡ (at (sealed_state (state_at start seat.steps)) epoch).guest)
    × (sent_along (sealed_state (state_at start b.steps)) epoch ≡ sent_along (sealed_state (state_at start seat.steps)) epoch))
    (came-is : came ≡ min arrivals (length (arrived_numbers b.protocol.journal.running)))
    (now : Record) (q : PortsState) (xs : List (ℕ × Frame)) (is : handing now q xs ≡ handed_next (ended b came ran fs)) where
  abbrev rows : Free start b seat.number what
  rows = is-free start b seat.number what ran fs why

  held : arrivals ≤ length (state_at start b.steps).handed
  held = held-now start seat b.steps arrivals ran fs settled begins t.legal rows.live handed-law epoch-law

  all : came ≡ arrivals
  all = came-all start b.steps b.protocol b.ports t arrivals came held came-is

  is-so : handing now q xs ≡ handed_next (ended b arrivals ran fs)
  is-so = is ∙ ap (λ (n : ℕ). handed_next (ended b n ran fs)) all

  sent-so : (state_at start b.steps).marked ≡ 0
      → fs ≡ sent_along (sealed_state (state_at start b.steps)) (epoch_of (state_at start b.steps).handed arrivals ran)
  sent-so = sent-now start seat b.steps arrivals ran fs settled begins t.legal rows.live handed-law epoch-law

  made-so : MakesEpoch start (state_at start b.steps) arrivals ran fs what
  made-so = makes-now start seat b.steps arrivals ran fs settled begins t.legal rows.live handed-law epoch-law what made

  long-so : length (ended b arrivals ran fs).ports.inboxes ≡ length (ended b arrivals ran fs).ports.boxes
  long-so = ended-inboxes (wanted_kind b) arrivals ran fs b.protocol b.ports t.waits.count

  pub submitted : Submitted start b seat.number what arrivals ran came fs now q xs
  submitted =
      let before = length b.protocol.journal.history in
      let by = seat.number in
      record {
        tied =
            subst (λ (n : ℕ). IsTied start (b.steps ++ step by (found what now.journal before n ran) ∷ []) now q) (sym all)
            (submitted-tied start b t keeps had k numbered by what rows arrivals ran fs held sent-so made-so now q xs is-so long-so);
        committed =
            subst (λ (n : ℕ). KeepsCommitted start (b.steps ++ step by (found what now.journal before n ran) ∷ []) now q) (sym all)
            (submitted-committed start b t keeps had k numbered by what rows arrivals ran fs held sent-so made-so now q xs is-so long-so);
        texts =
            subst
            (λ (n : ℕ). HasTexts start (b.steps ++ step by (found what now.journal before n ran) ∷ []) now (texts_ended what b.texts).packets)
            (sym all)
            (submitted-texts start b t keeps had k numbered by what rows arrivals ran fs held sent-so made-so now q xs is-so long-so);
        few =
            let count = as-many had k in
            let less = rows.few in omega (arith, count, less);
        told-is =
            ap (λ (n : ℕ). found what now.journal before n ran) all
            ∙ found-is start b t keeps had k numbered by what rows arrivals ran fs held sent-so made-so now q xs is-so long-so;
        hands = hands-next start b t keeps had k numbered by what rows arrivals ran fs held sent-so made-so now q xs is-so long-so;
        word = rows.word;
      }
