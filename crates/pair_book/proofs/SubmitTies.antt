-- What a submit keeps of the tie.
use Rattle.std.proofs.Common.{◌≡◌, ℕ, suc, ◌+◌, List, [], ◌∷◌, ◌++◌, length, map, drop, replicate, refl, sym, ap, ◌∙◌}
use Rattle.std.proofs.Common.{subst, append_assoc, arith}
use Rattle.std.proofs.lemmas.List.{append-nil, map-append}
use Rattle.frame_ports.specs.{Addresses.targets_of, Numbers.renumbered, Ports.PortsState}
use Rattle.output_gate.specs.Epochs.{frames_of}
use Rattle.pair_history.specs.Entries.{Frame, Entry, Arrive}
use Rattle.pair_history.specs.HistoryState.{HistoryState, at, sent_along}
use Rattle.pair_history.specs.Failures.{arrived_numbers, all_land}
use Rattle.pair_history.specs.Landings.{landings}
use Rattle.pair_history.specs.Order.{AreGuests}
use Rattle.pair_history.specs.Moves.{Move, Steps}
use Rattle.frame_ports.specs.laws.Lands.{length-lands}
use Rattle.pair_history.specs.laws.Moves.{moved}
use Rattle.pair_history.specs.laws.Histories.{at-append}
use Rattle.pair_record.specs.EpochActs.{guest_epoch, behind, epoch_sent, seal_epoch_done, enter_epoch_done}
use Rattle.pair_record.specs.Journal.{joined}
use Rattle.pair_record.specs.Protocol.{Record, shown_at, full_done}
use Rattle.pair_record.specs.Record.{IsRecord, IsLone, ports_landed}
use Rattle.pair_record.specs.Accords.{Accords}
use Rattle.pair_record.specs.laws.Accords.{owed_with}
use Rattle.pair_record.specs.Accords.{sealed_now}
use Rattle.pair_record.specs.laws.{Epochs.entered_is, Handed.parts, NewBackups.full_accords, Windows.within}
use Rattle.pair_record.specs.laws.Handed.{epoch_are, held_are, can, same, along, seal_epoch_accords, enter_epoch_accords}
use Rattle.growing_history.specs.Steps.{Step, step, Sealed, RanAlone}
use Rattle.growing_history.specs.LogState.{LogState, Epoch, state_at, sealed_state, entries_of, and_all_land, HasBackup, IsAlone}
use Rattle.growing_history.specs.LogState.{MaySeal, hands_out}
use Rattle.pair_history.specs.laws.Histories.{guests-append, boxes-stay}
use Rattle.growing_history.specs.laws.Seats.{seats-last}
use Rattle.growing_history.specs.Waiting.{StillWait}
use Rattle.growing_history.specs.laws.Waiting.{sealed-wait}
use Rattle.pair_book.specs.Handing.{handing, handed_next}
use Rattle.pair_book.specs.Settled.{epoch_of}
use Rattle.pair_book.specs.internal.{Tie.IsTied, Waits.AreWaiting}
use Rattle.pair_book.specs.laws.EpochWords.{epoch-is, rest-is, epoch-guests, is-epoch, handed-parts, entered-wait}
use Rattle.pair_book.proofs.{HandedNext.{Hands, hands, running_as}, Waits.still-waiting}
use Rattle.pair_book.proofs.Ties.{step-tied, shown, sealed-are, sealed-there, tied-as, tied-guests}

pub entries-push : (es : List Epoch) (e : Epoch) → entries_of (es ++ e ∷ []) ≡ entries_of es ++ e.entries
entries-push [] e = append-nil e.entries
entries-push (x ∷ es) e = ap (λ l. x.entries ++ l) (entries-push es e) ∙ sym (append_assoc x.entries (entries_of es) e.entries)

module _ (start : HistoryState) (steps : List Step) (r : Record) (p : PortsState) (t : IsTied start steps r p) (k : IsRecord r)
    (by : ℕ) (live : by ≡ (state_at start steps).runner) (arrivals ran : ℕ) (fs : List Frame)
    (sent : (state_at start steps).marked ≡ 0
    → fs ≡ sent_along (sealed_state (state_at start steps)) (epoch_of (state_at start steps).handed arrivals ran)) where
  abbrev s : LogState
  s = state_at start steps

  abbrev epoch : List Entry
  epoch = guest_epoch arrivals ran r.journal.running

  abbrev rest : List ℕ
  rest = drop (length (arrived_numbers epoch)) s.handed

  sent-so : s.marked ≡ 0 → fs ≡ epoch_sent start r arrivals ran
  sent-so none =
      let there = sealed-there start steps r p t none in
      sent none ∙ (λ i. sent_along (there i) (sym (epoch-is s.handed arrivals ran r.journal.running t.running) i))

  guests : AreGuests epoch
  guests = epoch-guests s.handed arrivals ran r.journal.running t.running

  -- no entry changes how many clients there are
  as-many : (es : List Entry) → length (at s.history es).boxes ≡ length p.boxes
  as-many es =
      let last = seats-last start steps in
      let same = t.clients in
      boxes-stay s.history es ∙ omega (arith, last, same)

  -- WITH A DELTA the epoch is sealed
  module _ (n : ℕ) (text : List ℕ) (to : r.window.to_cut ≡ suc n) (pair : HasBackup r.mode) (now : Record) (q : PortsState)
      (xs : List (ℕ × Frame)) (is : handing now q xs ≡ handed_next (handing (seal_epoch_done arrivals ran fs r).1 p [])) where
    abbrev e : Epoch
    e = record { number = suc n; entries = epoch; text = text }

    abbrev m : LogState
    m = record s { history = at s.history []; sealed = s.sealed ++ e ∷ []; next = suc n + 1; handed = rest }

    m-sealed : entries_of m.sealed ≡ entries_of s.sealed ++ epoch
    m-sealed = entries-push s.sealed e

    m-waits : AreWaiting m p
    m-waits =
        let still : StillWait s m =
        sealed-wait s m epoch rest (tied-guests start steps r p t) guests
        (handed-parts s.handed arrivals ran r.journal.running t.running) refl (ap (λ l. l ++ map Arrive rest) m-sealed) in
        still-waiting s m p p t.waits still refl refl refl

    m-guests : AreGuests (entries_of m.sealed)
    m-guests = subst AreGuests (sym m-sealed) (guests-append (entries_of s.sealed) epoch (tied-guests start steps r p t) guests)

    abbrev sealed-record : Record
    sealed-record = (seal_epoch_done arrivals ran fs r).1

    given : Hands start m (at m.history (entries_of m.sealed)) sealed-record now p q
    given =
        hands start m (at m.history (entries_of m.sealed)) sealed-record now p q xs m-waits m-guests
        (rest-is s.handed arrivals ran r.journal.running t.running) refl (as-many (entries_of m.sealed)) is

    pub sealed-tied : IsTied start (steps ++ step by (Sealed r.generation (suc n) epoch text) ∷ []) now q
    sealed-tied =
        tied-as given.protocol refl
        (step-tied start steps r (running_as (map Arrive (hands_out rest (at m.history (entries_of m.sealed)))) sealed-record) p q t by
        (Sealed r.generation (suc n) epoch text)
        (live, subst HasBackup t.mode pair, t.generation, sym to ∙ t.next, is-epoch s.handed arrivals ran r.journal.running t.running s refl)
        (λ none. tt)
        (λ none. sym (append-nil r.journal.history))
        (ap (λ l. l ++ epoch ∷ []) t.sealed ∙ sym (map-append (λ (x : Epoch). x.entries) s.sealed (e ∷ [])))
        refl t.mode t.generation (ap (λ (x : ℕ). x + 1) to) given.boxes given.waits
        (λ none. given.accords (seal_epoch_accords start r p (t.accords none) arrivals ran fs (sent-so none) k)))

  -- WHERE NOTHING IS SEALED OR PENDING the epoch enters the history, and what was sent along it lands
  module _ (lone : IsLone r) where
    abbrev entered-record : Record
    entered-record = enter_epoch_done arrivals ran p.boxes fs r

    abbrev landed-ports : PortsState
    landed-ports = ports_landed p r.next_frame fs

    abbrev landed : List Entry
    landed = landings p.boxes (targets_of (length p.boxes) fs)

    none-sealed : entries_of s.sealed ≡ []
    none-sealed = sealed-are start steps r p t ∙ ap joined lone.0

    lands : s.marked ≡ 0 → all_land (at s.history epoch) ≡ landed
    lands none =
        let a = t.accords none in
        let here = shown_at start r in
        let part = parts arrivals a.journal.running_moves in
        let ms : List Move = part.came ++ replicate ran Steps in
        let so = sent-so none in
        let sealed : List Move = sealed_now start r p a in
        let there : at s.history epoch ≡ moved here (sealed ++ ms) =
        (λ i. at (shown start steps r p t none i) epoch)
        ∙ sym (at-append start r.journal.history epoch)
        ∙ (λ i. at start (r.journal.history ++ (joined (sym lone.0 i) ++ epoch)))
        ∙ entered_is start r p a ms part.held epoch (behind arrivals r.journal.running) (epoch_are start r p a arrivals ran)
        (held_are start r p a arrivals ran) (can start r p a arrivals ran) (same start r p a arrivals ran) fs
        (along start r p a arrivals ran fs so) in
        let out : (moved here (sealed ++ ms)).out ≡ targets_of (length p.boxes) fs =
        sym (owed_with start r p a ms fs (along start r p a arrivals ran fs so))
        ∙ (λ i. targets_of (length p.boxes) (frames_of (lone.1 i) ++ fs)) in
        ap all_land there ∙ (λ i. landings (sym a.clients.boxes i) (out i))

    grown : s.marked ≡ 0 → entered-record.journal.history ≡ r.journal.history ++ and_all_land s.history epoch
    grown none =
        (λ i. (r.journal.history ++ (joined (lone.0 i) ++ epoch)) ++ landed)
        ∙ append_assoc r.journal.history epoch landed
        ∙ ap (λ l. r.journal.history ++ (epoch ++ l)) (sym (lands none))

    long : length landed-ports.boxes ≡ length p.boxes
    long = length-lands p.boxes (targets_of (length p.boxes) fs)

    entered-accords : s.marked ≡ 0 → Accords start entered-record landed-ports
    entered-accords none = enter_epoch_accords start r p (t.accords none) arrivals ran fs (sent-so none) lone

    -- ALONE
    module _ (alone : IsAlone r.mode) (now : Record) (q : PortsState) (xs : List (ℕ × Frame))
        (is : handing now q xs ≡ handed_next (handing entered-record landed-ports [])) where
      abbrev then : LogState
      then = record s { history = at s.history (and_all_land s.history epoch); handed = rest }

      then-waits : AreWaiting then landed-ports
      then-waits =
          still-waiting s then p landed-ports t.waits
          (entered-wait s then epoch rest none-sealed none-sealed guests (handed-parts s.handed arrivals ran r.journal.running t.running) refl refl)
          refl refl long

      given-alone : Hands start then then.history entered-record now landed-ports q
      given-alone =
          hands start then then.history entered-record now landed-ports q xs then-waits (tied-guests start steps r p t)
          (rest-is s.handed arrivals ran r.journal.running t.running) (ap (at then.history) (sym none-sealed))
          (as-many (and_all_land s.history epoch) ∙ sym long) is

      pub alone-tied : IsTied start (steps ++ step by (RanAlone epoch) ∷ []) now q
      alone-tied =
          tied-as given-alone.protocol refl
          (step-tied start steps r (running_as (map Arrive (hands_out rest then.history)) entered-record) p q t by (RanAlone epoch)
          (live, subst IsAlone t.mode alone, is-epoch s.handed arrivals ran r.journal.running t.running s refl)
          (λ none. tt)
          grown (sym lone.0 ∙ t.sealed) refl t.mode t.generation t.next (given-alone.boxes ∙ long) given-alone.waits
          (λ none. given-alone.accords (entered-accords none)))

    -- WITH A FULL CHECKPOINT an empty epoch is sealed behind it
    module _ (text : List ℕ) (to : r.window.to_cut ≡ 0) (filling : MaySeal 0 r.mode) (now : Record) (q : PortsState)
        (xs : List (ℕ × Frame)) (is : handing now q xs ≡ handed_next (handing (full_done entered-record).1 (renumbered landed-ports) [])) where
      abbrev filled : LogState
      filled = record s {
        history = at s.history (and_all_land s.history epoch);
        sealed = record { number = 0; entries = []; text = text } ∷ [];
        next = 0 + 1;
        handed = rest;
      }

      filled-waits : AreWaiting filled (renumbered landed-ports)
      filled-waits =
          still-waiting s filled p (renumbered landed-ports) t.waits
          (entered-wait s filled epoch rest none-sealed refl guests (handed-parts s.handed arrivals ran r.journal.running t.running) refl refl)
          refl refl long

      given-full : Hands start filled filled.history (full_done entered-record).1 now (renumbered landed-ports) q
      given-full =
          hands start filled filled.history (full_done entered-record).1 now (renumbered landed-ports) q xs filled-waits tt
          (rest-is s.handed arrivals ran r.journal.running t.running) refl (as-many (and_all_land s.history epoch) ∙ sym long) is

      pub full-tied : IsTied start (steps ++ step by (Sealed r.generation 0 epoch text) ∷ []) now q
      full-tied =
          tied-as given-full.protocol refl
          (step-tied start steps r (running_as (map Arrive (hands_out rest filled.history)) (full_done entered-record).1) p q t by
          (Sealed r.generation 0 epoch text)
          (live, subst (MaySeal 0) t.mode filling, t.generation, sym to ∙ t.next, is-epoch s.handed arrivals ran r.journal.running t.running s refl)
          (λ none. tt)
          grown refl refl t.mode t.generation (ap (λ (x : ℕ). x + 1) to) (given-full.boxes ∙ long) given-full.waits
          (λ none. given-full.accords
          (full_accords start entered-record landed-ports (entered-accords none) (within r.window r.pending k.window))))
