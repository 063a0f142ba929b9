-- What each call keeps of what the backup has committed.
use Rattle.std.proofs.Common.{◌≡◌, ℕ, ◌+◌, ◌<◌, ◌≤◌, List, [], ◌∷◌, ◌++◌, length, take, drop, remove, refl, sym, ap, ◌∙◌, subst}
use Rattle.std.proofs.Common.{◌-◌, false, arith, None}
use Rattle.std.proofs.lemmas.List.{length-set}
use Rattle.std.specs.Prelude.{slice_get}
use Rattle.failover.specs.declared.change.Change.TheVariants as changes
use Rattle.epoch_snapshot.specs.Checkpoints.{Change}
use Rattle.frame_ports.specs.{Lands.list_of, Ports.{PortsState, after_delivery}}
use Rattle.output_gate.specs.laws.Ports.{risen-same}
use Rattle.pair_history.specs.Entries.{Frame, Entry, Delivered, Refused, Took, DropIn, DropOut}
use Rattle.pair_history.specs.HistoryState.{HistoryState, sent_along}
use Rattle.pair_history.specs.Moves.{entries_of}
use Rattle.pair_history.specs.laws.Moves.{sent_along-moves}
use Rattle.pair_record.specs.EpochActs.{fail_within_done}
use Rattle.pair_record.specs.FailureActs.{first_uncommitted}
use Rattle.pair_record.specs.Journal.{first_of, with_history}
use Rattle.pair_record.specs.Kept.{all_frames, frames_by_epoch}
use Rattle.pair_record.specs.Modes.{is_alone, change_refusal}
use Rattle.pair_record.specs.Protocol.{Record, shown_at, ack_done, commit_done, fail_primary_done, begin_done}
use Rattle.pair_record.specs.Protocol.{deliver_done, take_done, loss_done}
use Rattle.pair_record.specs.Record.{IsRecord, AreNumbered, start_record, ports_after_ack}
use Rattle.pair_record.specs.Record.{ports_after_take, ports_after_lose_in, ports_after_lose_out}
use Rattle.pair_record.specs.Window.{committed_of}
use Rattle.pair_record.specs.laws.Accords.{first_is, can_first, first_sends, some_moves, some_held}
use Rattle.growing_history.specs.Steps.{What, Added, PrimaryFailed, BackupFailed, Protected, Step, step}
use Rattle.growing_history.specs.LogState as log
use Rattle.growing_history.specs.LogState.{LogState, state_at}
use Rattle.growing_history.specs.SealedTexts.{IsMade}
use Rattle.growing_history.specs.laws.Logs.{state-snoc, marked}
use Rattle.growing_history.specs.laws.Texts.{made-nil, made-goes-on}
use Rattle.pair_book.specs.{Commits.commit_of, Made.Reads}
use Rattle.pair_book.specs.Standing.{first_sent, commits_after, commits_of}
use Rattle.pair_book.specs.internal.{Tie.IsTied, Committed.{AreOwed, KeepsCommitted}}
use Rattle.pair_book.proofs.CommittedLaws.{commits-nil, commits-snoc, owed_on, owed_committed, owed_acked}
use Rattle.pair_book.proofs.CommitTies.{first-entries, some-first}
use Rattle.pair_book.proofs.{FailureTies.is_paired, Ties.shown}

-- AT THE START
pub start-keeps : (start : HistoryState) (r : Record) (p : PortsState) → r ≡ start_record → KeepsCommitted start [] r p
start-keeps start r p is = record {
  none = λ z. commits-nil start;
  owed = λ m a c. record {
    older = [];
    all = commits-nil start ∙ ap (λ (y : Record). frames_by_epoch (committed_of y.window y.pending)) (sym is);
    came = tt;
    count = ap (λ (l : List (List Frame)). length (all_frames l) + 1) (commits-nil start) ∙ ap first_uncommitted (sym is);
  };
  made = made-nil (Reads start) start;
}

-- A STEP, whatever it is: one that seals a text must make what it should
pub step-keeps : (start : HistoryState) (steps : List Step) (r now : Record) (p q : PortsState) → KeepsCommitted start steps r p → (by : ℕ)
    (what : What) → IsMade (Reads start) (state_at start steps) what
    → (now.window.to_commit ≡ 0 → commits_after (state_at start steps) what (commits_of start steps) ≡ [])
    → ((state_at start steps).marked ≡ 0 → is_alone now.mode ≡ false → 1 ≤ now.window.to_cut
    → AreOwed now q (commits_after (state_at start steps) what (commits_of start steps)))
    → KeepsCommitted start (steps ++ step by what ∷ []) now q
step-keeps start steps r now p q h by what made none owed =
    let there = state-snoc start steps (step by what) in
    let goes = commits-snoc start steps (step by what) in
    let before : (state_at start (steps ++ step by what ∷ [])).marked ≡ 0 → (state_at start steps).marked ≡ 0 =
    λ m.
    let least = marked (state_at start steps) what in
    let same = ap (λ (u : LogState). u.marked) there in
    omega (arith, least, same, m) in
    record {
      none = λ z. goes ∙ none z;
      owed = λ m a c. subst (AreOwed now q) (sym goes) (owed (before m) a c);
      made = made-goes-on (Reads start) start steps (step by what) h.made made;
    }

-- one that adds entries of clients or of the line
pub added-keeps : (start : HistoryState) (steps : List Step) (r : Record) (p q : PortsState) → KeepsCommitted start steps r p → (by : ℕ)
    (es : List Entry) → length q.boxes ≡ length p.boxes → q.numbers ≡ p.numbers
    → KeepsCommitted start (steps ++ step by (Added es) ∷ []) (record r { journal = with_history r.journal es }) q
added-keeps start steps r p q h by es boxes numbers =
    let now = record r { journal = with_history r.journal es } in
    step-keeps start steps r now p q h by (Added es) tt h.none
    (λ m a c. owed_on r p (commits_of start steps) (h.owed m a c) now q refl refl (risen-same p q boxes numbers))

-- what a call leaves is the record and the ports that it makes
pub keeps-as : {start : HistoryState} {steps : List Step} {r now : Record} {p q : PortsState} → now ≡ r → q ≡ p
    → KeepsCommitted start steps r p → KeepsCommitted start steps now q
keeps-as {start} {steps} is ports h =
    subst (λ (y : Record × PortsState). KeepsCommitted start steps y.0 y.1) (λ i. (sym is i, sym ports i)) h

module _ {start : HistoryState} {steps : List Step} {r now : Record} {p q : PortsState} (h : KeepsCommitted start steps r p) (by : ℕ) where
  -- each call of a client, and each loss
  pub took-keeps : (c : ℕ) → now ≡ (take_done p.boxes r c).1 → q ≡ ports_after_take p c
      → KeepsCommitted start (steps ++ step by (Added (Took c (slice_get (list_of p.boxes c) 0) ∷ [])) ∷ []) now q
  took-keeps c is ports =
      keeps-as is ports
      (added-keeps start steps r p (ports_after_take p c) h by (Took c (slice_get (list_of p.boxes c) 0) ∷ [])
      (length-set p.boxes (c - 1) (drop 1 (list_of p.boxes c))) refl)

  pub delivered-keeps : (c : ℕ) (f : Frame) → now ≡ (deliver_done r c f p.next).1 → q ≡ after_delivery p c f.items
      → KeepsCommitted start (steps ++ step by (Added (Delivered c f p.next ∷ [])) ∷ []) now q
  delivered-keeps c f is ports =
      keeps-as is ports (added-keeps start steps r p (after_delivery p c f.items) h by (Delivered c f p.next ∷ []) refl refl)

  pub refused-keeps : (c : ℕ) (f : Frame) → now ≡ record r { journal = with_history r.journal (Refused c f ∷ []) } → q ≡ p
      → KeepsCommitted start (steps ++ step by (Added (Refused c f ∷ [])) ∷ []) now q
  refused-keeps c f is ports = keeps-as is ports (added-keeps start steps r p p h by (Refused c f ∷ []) refl refl)

  pub lost-in-keeps : (c place n : ℕ) → now ≡ (loss_done r (DropIn n)).1 → q ≡ ports_after_lose_in p c place
      → KeepsCommitted start (steps ++ step by (Added (DropIn n ∷ [])) ∷ []) now q
  lost-in-keeps c place n is ports =
      keeps-as is ports (added-keeps start steps r p (ports_after_lose_in p c place) h by (DropIn n ∷ []) refl refl)

  pub lost-out-keeps : (c place : ℕ) → now ≡ (loss_done r (DropOut c place)).1 → q ≡ ports_after_lose_out p c place
      → KeepsCommitted start (steps ++ step by (Added (DropOut c place ∷ [])) ∷ []) now q
  lost-out-keeps c place is ports =
      keeps-as is ports
      (added-keeps start steps r p (ports_after_lose_out p c place) h by (DropOut c place ∷ [])
      (length-set p.boxes (c - 1) (remove (list_of p.boxes c) place)) refl)

  -- AN ACKNOWLEDGEMENT, with a step or without
  module _ (n : ℕ) (k : IsRecord r) (numbered : AreNumbered r p) (clients : length p.numbers ≡ length p.boxes)
      (below : n < r.window.to_commit) (is : now ≡ (ack_done p.boxes r n).1) (ports : q ≡ ports_after_ack p r n) where
    acked-owed : (state_at start steps).marked ≡ 0 → is_alone r.mode ≡ false → 1 ≤ r.window.to_cut
        → AreOwed (ack_done p.boxes r n).1 (ports_after_ack p r n) (commits_of start steps)
    acked-owed m a c = owed_acked r p (commits_of start steps) (h.owed m a c) k numbered clients n below

    pub acked-keeps : (es : List Entry) → KeepsCommitted start (steps ++ step by (Added es) ∷ []) now q
    acked-keeps es =
        keeps-as is ports
        (step-keeps start steps r (ack_done p.boxes r n).1 p (ports_after_ack p r n) h by (Added es) tt h.none acked-owed)

    pub unmoved-keeps : KeepsCommitted start steps now q
    unmoved-keeps = keeps-as is ports (record { none = h.none; owed = acked-owed; made = h.made })

  -- THE PRIMARY FAILS
  pub primary-keeps : change_refusal changes.FailPrimary r.mode ≡ None → now ≡ (fail_primary_done r).1 → q ≡ p
      → KeepsCommitted start (steps ++ step by PrimaryFailed ∷ []) now q
  primary-keeps free is ports =
      let stopped = (fail_primary_done r).1 in
      keeps-as is ports
      (step-keeps start steps r stopped p p h by PrimaryFailed tt h.none
      (λ m a c.
      owed_on r p (commits_of start steps) (h.owed m (ap is_alone (is_paired r.mode free)) c) stopped p refl refl
      (risen-same p p refl refl)))

  -- THE BACKUP FAILS: a node is alone
  pub backup-keeps : IsRecord r → now ≡ (fail_within_done p.boxes r).1 → KeepsCommitted start (steps ++ step by BackupFailed ∷ []) now q
  backup-keeps k is =
      step-keeps start steps r now p q h by BackupFailed tt
      (λ z. let cut = ap (λ (y : Record). y.window.to_commit) is in let w = k.window.cut in h.none (omega (arith, cut, w, z)))
      (λ m a c. let alone = ap (λ (y : Record). is_alone y.mode) is in absurd (cc))

  -- A NEW BACKUP has committed nothing
  pub protected-keeps : (b : ℕ) → now ≡ (begin_done r).1 → KeepsCommitted start (steps ++ step by (Protected b) ∷ []) now q
  protected-keeps b is =
      step-keeps start steps r now p q h by (Protected b) tt (λ z. refl)
      (λ m a c. let cut = ap (λ (y : Record). y.window.to_cut) is in absurd (omega (arith, cut, c)))

  -- A COMMIT
  module _ (t : IsTied start steps r p) (c : Change) (k : IsRecord r) (numbered : AreNumbered r p) (pair : is_alone r.mode ≡ false)
      (some : r.window.to_commit < r.window.to_cut) (is : now ≡ (commit_done r).1) (ports : q ≡ p) where
    committed-owed : (state_at start steps).marked ≡ 0
        → AreOwed (commit_done r).1 p (commits_of start steps ++ first_sent (state_at start steps) ∷ [])
    committed-owed m =
        let a = t.accords m in
        let many = some_moves start r p a k some in
        let moves = some-first a.journal.sealed_moves many in
        let held = some_held start r p a k many in
        let ms = moves.0 in
        let here = shown start steps r p t m in
        let entries : log.entries_of (take 1 (state_at start steps).sealed) ≡ entries_of ms =
        sym (first-entries (state_at start steps).sealed) ∙ ap first_of (sym t.sealed) ∙ first_is start r p a k ms moves.1 moves.2 in
        let sent : first_sent (state_at start steps) ≡ held.0.frames =
        (λ i. sent_along (here i) (entries i))
        ∙ sent_along-moves (shown_at start r) ms (can_first start r p a k ms moves.1 moves.2)
        ∙ sym (first_sends start r p a k ms moves.1 moves.2 held.0 held.1 held.2) in
        let before = h.owed m pair (omega (arith, some)) in
        subst (λ (fs : List Frame). AreOwed (commit_done r).1 p (commits_of start steps ++ fs ∷ [])) (sym sent)
        (owed_committed r p (commits_of start steps) before k numbered.held held.0 held.1 held.2)

    pub committed-keeps : KeepsCommitted start (steps ++ step by (commit_of c) ∷ []) now q
    committed-keeps =
        keeps-as is ports
        (step-keeps start steps r (commit_done r).1 p p h by (commit_of c) tt (λ z. absurd (omega (arith, z))) (λ m a c. committed-owed m))
