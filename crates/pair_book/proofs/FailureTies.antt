-- What each failure, each new backup and each acknowledgement keeps of the tie.
use Rattle.std.proofs.Common.{◌≡◌, ℕ, ◌+◌, ◌<◌, ◌≤◌, List, [], ◌∷◌, ◌++◌, length, refl, sym, ap, ◌∙◌, subst, append_assoc}
use Rattle.std.proofs.Common.{Bool, true, false, cond, None, arith}
use Rattle.std.proofs.lemmas.List.{append-nil, length-append}
use Rattle.failover.specs.declared.change.Change.TheVariants as changes
use Rattle.failover.specs.declared.mode.Mode.{Mode}
use Rattle.failover.specs.declared.mode.Mode.TheVariants.{Paired, Filling, Alone, Stopped}
use Rattle.std.specs.Prelude.{nat_lt, drop}
use Rattle.frame_ports.specs.{Lands.{has_room, landed_at}, Limits.box_frames, Ports.PortsState}
use Rattle.pair_history.specs.Entries.{Frame, Entry, Land, DropOut}
use Rattle.pair_history.specs.HistoryState.{HistoryState, at}
use Rattle.pair_history.specs.HistoryState as history
use Rattle.pair_history.specs.{Failures.all_land, Landings.{landings, DropsAtFull}}
use Rattle.pair_history.specs.Moves.{Move}
use Rattle.frame_ports.specs.laws.Lands.{length-lands}
use Rattle.pair_history.specs.laws.Moves.{moved}
use Rattle.pair_history.specs.laws.Waits.{AreQuiet-landings}
use Rattle.pair_record.specs.Journal.{joined}
use Rattle.pair_record.specs.EpochActs.{fail_within_done}
use Rattle.pair_record.specs.Modes.{change_refusal, is_alone}
use Rattle.pair_record.specs.Protocol.{Record, shown_at, let_go, all_held, ack_done, fail_primary_done, begin_done}
use Rattle.pair_record.specs.Record.{IsRecord, ports_after_ack, ports_after_all}
use Rattle.pair_record.specs.Accords.{Accords}
use Rattle.pair_record.specs.Accords.{sealed_now}
use Rattle.pair_record.specs.laws.Accords.{sealed_state, owed_with}
use Rattle.pair_record.specs.laws.{Clients.{ack_accords, ack_lands}, Handed.fail_within_accords, NewBackups.begin_accords}
use Rattle.growing_history.specs.Steps.{Step, step, Added, PrimaryFailed, BackupFailed, Protected}
use Rattle.growing_history.specs.LogState.{LogState, state_at, under_way, entries_of, added, IsOwn, AreOwn, AreKnown, HasBackup, IsAlone, IsNew}
use Rattle.growing_history.specs.laws.Waiting.{same-wait}
use Rattle.pair_book.specs.internal.Tie.{IsTied}
use Rattle.pair_book.proofs.{Ties.{step-tied, shown, sealed-are, sealed-there, gained-there, tied-as, tied-still}, Waits.still-waiting}

-- what an acknowledgement lets land
abbrev pub landed_by : List (List Frame) → Record → ℕ → List Entry
landed_by boxes r n = landings boxes (let_go boxes r n)

-- entries behind others that make the list no longer are none
pub no-more : (xs ys es : List Entry) → ys ≡ xs ++ es → length ys ≤ length xs → es ≡ []
no-more xs ys [] e l = refl
no-more xs ys (x ∷ es) e l =
    let long : length ys ≡ length xs + length (x ∷ es) = ap (λ (zs : List Entry). length zs) e ∙ length-append xs (x ∷ es) in
    absurd (omega (arith, long, l))

-- WHERE A MODE ALLOWS IT

pub is_paired : (m : Mode) → change_refusal changes.FailPrimary m ≡ None → m ≡ Paired
is_paired Paired e = refl
is_paired Filling e = absurd (cc)
is_paired Alone e = absurd (cc)
is_paired Stopped e = absurd (cc)

pub has_backup : (m : Mode) → change_refusal changes.FailBackup m ≡ None → HasBackup m × (is_alone m ≡ false)
has_backup Paired e = (tt, refl)
has_backup Filling e = (tt, refl)
has_backup Alone e = absurd (cc)
has_backup Stopped e = absurd (cc)

pub is_lone : (m : Mode) → change_refusal changes.Protect m ≡ None → IsAlone m × (is_alone m ≡ true)
is_lone Paired e = absurd (cc)
is_lone Filling e = absurd (cc)
is_lone Alone e = (tt, refl)
is_lone Stopped e = absurd (cc)

-- WHAT LANDS, or finds a full box, is the keeper's own

at_limit : nat_lt box_frames box_frames ≡ false
at_limit = refl

own-landings : (b : List (List Frame)) (ps : List (ℕ × Frame)) → AreOwn 0 (landings b ps)
own-landings b [] = tt
own-landings b (x ∷ xs) = (one (has_room b x.0), own-landings (landed_at b x.0 x.1) xs)
  where
    one : (room : Bool) → IsOwn 0 (cond room (Land x.0) (DropOut x.0 box_frames))
    one true = refl
    one false = refl

full-known-one : (way : List Entry) (c : ℕ) (rest : List Entry) (h : HistoryState)
    → ((t : HistoryState) → DropsAtFull t rest → AreKnown way t 0 rest) → (room : Bool)
    → DropsAtFull h (cond room (Land c) (DropOut c box_frames) ∷ rest) → AreKnown way h 0 (cond room (Land c) (DropOut c box_frames) ∷ rest)
full-known-one way c rest h more true d = (tt, more (history.after h (Land c)) d)
full-known-one way c rest h more false d = ((λ e. d.0), more (history.after h (DropOut c box_frames)) d.1)

full-known : (way : List Entry) (b : List (List Frame)) (ps : List (ℕ × Frame)) (h : HistoryState) → DropsAtFull h (landings b ps)
    → AreKnown way h 0 (landings b ps)
full-known way b [] h d = tt
full-known way b (x ∷ xs) h d =
    full-known-one way x.0 (landings (landed_at b x.0 x.1) xs) h (λ t e. full-known way (landed_at b x.0 x.1) xs t e) (has_room b x.0) d

module _ {start : HistoryState} {steps : List Step} {r : Record} {p : PortsState} (t : IsTied start steps r p) where
  abbrev s : LogState
  s = state_at start steps

  -- THE PRIMARY FAILS
  module _ {now : Record} {q : PortsState} (free : change_refusal changes.FailPrimary r.mode ≡ None)
      (is : now ≡ (fail_primary_done r).1) (ports : q ≡ p) where
    pub primary-tied : IsTied start (steps ++ step 0 PrimaryFailed ∷ []) now q
    primary-tied =
        tied-as is ports
        (step-tied start steps r (fail_primary_done r).1 p p t 0 PrimaryFailed (refl, sym t.mode ∙ is_paired r.mode free) (λ none. tt)
        (λ none. sym (append-nil r.journal.history)) t.sealed t.running refl t.generation t.next refl
        (tied-still start steps r p p t PrimaryFailed tt refl refl refl) (λ none. stopped (t.accords none)))
      where
        stopped : Accords start r p → Accords start (fail_primary_done r).1 p
        stopped a = record { journal = a.journal; frames = a.frames; clients = a.clients; owed = a.owed }

  -- THE BACKUP FAILS
  module _ {now : Record} {q : PortsState} (free : change_refusal changes.FailBackup r.mode ≡ None)
      (is : now ≡ (fail_within_done p.boxes r).1) (ports : q ≡ ports_after_all p [] r) where
    -- what is on its way once what is sealed is committed is what the gate holds
    all_land-is : Accords start r p → s.marked ≡ 0 → all_land (at s.history (entries_of s.sealed)) ≡ landings p.boxes (all_held p.boxes [] r)
    all_land-is a none =
        let ms : List Move = sealed_now start r p a in
        let here = shown_at start r in
        let out : (moved here ms).out ≡ all_held p.boxes [] r =
        ap (λ (xs : List Move). (moved here xs).out) (sym (append-nil ms)) ∙ sym (owed_with start r p a [] [] refl) in
        ap all_land (sealed-there start steps r p t none ∙ sealed_state start r p a) ∙ (λ i. landings (sym a.clients.boxes i) (out i))

    failed-history : s.marked ≡ 0 → (fail_within_done p.boxes r).1.journal.history ≡ r.journal.history ++ added s BackupFailed
    failed-history none =
        let a = t.accords none in
        let sealed = append-nil (joined r.journal.sealed) ∙ sym (sealed-are start steps r p t) in
        append_assoc r.journal.history (joined r.journal.sealed ++ []) (landings p.boxes (all_held p.boxes [] r))
        ∙ (λ i. r.journal.history ++ (sealed i ++ sym (all_land-is a none) i))

    pub backup-tied : IsTied start (steps ++ step 0 BackupFailed ∷ []) now q
    backup-tied =
        let boxes = length-lands p.boxes (all_held p.boxes [] r) in
        let q' = ports_after_all p [] r in
        tied-as is ports
        (step-tied start steps r (fail_within_done p.boxes r).1 p q' t 0 BackupFailed
        (refl, subst HasBackup t.mode (has_backup r.mode free).0) (λ none. tt) failed-history refl t.running refl t.generation t.next boxes
        (tied-still start steps r p q' t BackupFailed tt refl refl boxes) (λ none. fail_within_accords start r p (t.accords none)))

  -- A NEW BACKUP
  module _ {now : Record} {q : PortsState} (b : ℕ) (new : IsNew s b) (free : change_refusal changes.Protect r.mode ≡ None)
      (k : IsRecord r) (is : now ≡ (begin_done r).1) (ports : q ≡ p) where
    pub protected-tied : IsTied start (steps ++ step 0 (Protected b) ∷ []) now q
    protected-tied =
        let lone = is_lone r.mode free in
        tied-as is ports
        (step-tied start steps r (begin_done r).1 p p t 0 (Protected b) (refl, subst IsAlone t.mode lone.0, new) (λ none. tt)
        (λ none. sym (append-nil r.journal.history)) t.sealed t.running refl (ap (λ n. n + 1) t.generation) refl refl
        (tied-still start steps r p p t (Protected b) tt refl refl refl)
        (λ none. begin_accords start r p (t.accords none) (k.alone lone.1)))

  -- AN ACKNOWLEDGEMENT that lets frames go
  module _ {now : Record} {q : PortsState} (n : ℕ) (k : IsRecord r) (below : n < r.window.to_commit) (is : now ≡ (ack_done p.boxes r n).1)
      (ports : q ≡ ports_after_ack p r n) where
    abbrev pub landed : List Entry
    landed = landings p.boxes (let_go p.boxes r n)

    landed-known : s.marked ≡ 0 → AreKnown (under_way s) s.history 0 landed
    landed-known none =
        subst (λ (h : HistoryState). AreKnown (under_way s) h 0 landed) (sym (shown start steps r p t none))
        (full-known (under_way s) p.boxes (let_go p.boxes r n) (shown_at start r) (ack_lands start r p (t.accords none) k n below).2)

    pub acked-gained : (m : ℕ) (h : List Entry) → m ≡ length r.journal.history → h ≡ now.journal.history → drop m h ≡ landed
    acked-gained m h len same = gained-there m h r now landed len same (ap (λ (y : Record). y.journal.history) is)

    pub acked-tied : IsTied start (steps ++ step 0 (Added landed) ∷ []) now q
    acked-tied =
        let boxes = length-lands p.boxes (let_go p.boxes r n) in
        let q' = ports_after_ack p r n in
        tied-as is ports
        (step-tied start steps r (ack_done p.boxes r n).1 p q' t 0 (Added landed) (own-landings p.boxes (let_go p.boxes r n)) landed-known
        (λ none. refl) t.sealed t.running t.mode t.generation t.next boxes
        (tied-still start steps r p q' t (Added landed) (AreQuiet-landings p.boxes (let_go p.boxes r n)) refl refl boxes)
        (λ none. ack_accords start r p (t.accords none) k n below))

    -- where nothing leaves, no step is made, and the record is still the one that the steps lead to
    pub unmoved-tied : landed ≡ [] → IsTied start steps now q
    unmoved-tied nothing =
        let boxes = length-lands p.boxes (let_go p.boxes r n) in
        let now-tied : IsTied start steps (ack_done p.boxes r n).1 (ports_after_ack p r n) =
        record {
          legal = t.legal;
          history = λ none. ap (λ (es : List Entry). r.journal.history ++ es) nothing ∙ append-nil r.journal.history ∙ t.history none;
          sealed = t.sealed;
          running = t.running;
          mode = t.mode;
          generation = t.generation;
          next = t.next;
          clients = boxes ∙ t.clients;
          waits = still-waiting s s p (ports_after_ack p r n) t.waits (same-wait s s refl refl refl) refl refl boxes;
          accords = λ none. ack_accords start r p (t.accords none) k n below;
        } in
        tied-as is ports now-tied
