-- What the backup has committed: how its lists go on, and how they stay what the gate may still owe.
use Rattle.std.proofs.Common.{◌≡◌, ◌≢◌, ℕ, ◌+◌, ◌-◌, ◌<◌, List, [], ◌∷◌, ◌++◌, length, take, refl, sym, ap, ◌∙◌, subst, arith}
use Rattle.frame_ports.specs.Ports.{PortsState}
use Rattle.output_gate.specs.{Epochs.{Epoch, frames_of}, Landings.HaveRisen}
use Rattle.pair_history.specs.Entries.{Frame, Entry}
use Rattle.pair_history.specs.HistoryState.{HistoryState}
use Rattle.pair_record.specs.{Kept.{all_frames, Brings}, FailureActs.first_uncommitted}
use Rattle.pair_record.specs.Protocol.{Record, seal_done, commit_done, ack_done}
use Rattle.pair_record.specs.Record.{IsRecord, AreNumbered, ports_after_ack}
use Rattle.pair_record.specs.Window.{IsWindow, committed_of, uncommitted_of}
use Rattle.pair_record.specs.Kept.{EndOwed}
use Rattle.pair_record.specs.laws.Owed as laws
use Rattle.growing_history.specs.Steps.{What, Committed, Protected, Step, Begins, steps_by}
use Rattle.growing_history.specs.LogState.{LogState, start_of, after_step, Needs, state_after, LegalFrom, LegalSteps, state_at}
use Rattle.growing_history.specs.laws.Between.{none-first, none-between, same, later}
use Rattle.growing_history.specs.laws.Logs.{numbers, numbers-rise}
use Rattle.pair_book.specs.Standing.{commits_after, commits_from, commits_of, last_four, KeepsLast}
use Rattle.pair_book.specs.internal.Committed.{AreOwed}

-- THE LISTS of a list of steps

commits-append : (s : LogState) (xs ys : List Step) (lists : List (List Frame))
    → commits_from s (xs ++ ys) lists ≡ commits_from (state_after s xs) ys (commits_from s xs lists)
commits-append s [] ys lists = refl
commits-append s (x ∷ xs) ys lists = commits-append (after_step s x.what) xs ys (commits_after s x.what lists)

pub commits-nil : (h : HistoryState) → commits_of h [] ≡ []
unfolding commits_of
commits-nil h = refl

pub commits-snoc : (h : HistoryState) (xs : List Step) (x : Step)
    → commits_of h (xs ++ x ∷ []) ≡ commits_after (state_at h xs) x.what (commits_of h xs)
unfolding commits_of state_at
commits-snoc h xs x = commits-append (start_of h) xs (x ∷ []) []

-- a backup that is live before a step of another and after it has committed what it had
commits-step : (s : LogState) (by : ℕ) (w : What) (n : ℕ) (lists : List (List Frame)) → Needs s (record { by = by; what = w }) → by ≢ n
    → s.backup ≡ n → (after_step s w).backup ≡ n → commits_after s w lists ≡ lists
commits-step s by (Committed x k text) n lists needs other is now = absurd (other (needs.may.0 ∙ is))
commits-step s by (Protected b) n lists needs other is now = absurd (omega (arith, needs.may.2.1, is, now))
commits-step s by another n lists needs other is now = refl

commits-steps : (s : LogState) (xs : List Step) (n : ℕ) (lists : List (List Frame)) → LegalFrom s xs → steps_by n xs ≡ [] → s.backup ≡ n
    → (state_after s xs).backup ≡ n → commits_from s xs lists ≡ lists
commits-steps s [] n lists l others is now = refl
commits-steps s (x ∷ xs) n lists l others is now =
    let t = after_step s x.what in
    let apart = none-first n x xs others in
    let there : t.backup ≡ n = omega (arith, (numbers s x.by x.what l.0).1, (numbers-rise t xs l.1).1, is, now) in
    ap (commits_from t xs) (commits-step s x.by x.what n lists l.0 apart.0 is there) ∙ commits-steps t xs n lists l.1 apart.1 there now

pub commits-missed : (h : HistoryState) (old now : List Step) (n : ℕ) (b : Begins old now) (l : LegalSteps h now)
    (own : steps_by n now ≡ steps_by n old) → (state_at h old).backup ≡ n → (state_at h now).backup ≡ n
    → commits_of h now ≡ commits_of h old
unfolding commits_of state_at
commits-missed h old now n b l own was is =
    let s = state_after (start_of h) old in
    let lists = commits_from (start_of h) old [] in
    ap (λ (xs : List Step). commits_from (start_of h) xs []) b.1
    ∙ commits-append (start_of h) old b.0 []
    ∙ commits-steps s b.0 n lists (later h old now b l) (none-between n old now b own) was
    (subst (λ (t : LogState). t.backup ≡ n) (same h old now b) is)

-- WHAT THE GATE MAY OWE

module _ (r : Record) (p : PortsState) (lists : List (List Frame)) where
  ends : AreOwed r p lists → EndOwed r p 1 lists
  ends h = record { older = h.older; all = h.all; came = h.came; count = omega (arith, h.count) }

  owed : EndOwed r p 1 lists → AreOwed r p lists
  owed h = record { older = h.older; all = h.all; came = h.came; count = omega (arith, h.count) }

module _ (r : Record) (p : PortsState) (lists : List (List Frame)) (h : AreOwed r p lists) where
  -- another record with the same frames of committed checkpoints, and ports at which as much has come
  pub owed_on : (s : Record) (q : PortsState) → first_uncommitted s ≡ first_uncommitted r
      → committed_of s.window s.pending ≡ committed_of r.window r.pending → HaveRisen p q → AreOwed s q lists
  owed_on s q first same risen = owed s q lists (laws.owed_on r p 1 lists (ends r p lists h) s q first same risen)

  -- what is sealed is not committed yet
  pub owed_sealed : IsWindow r.window r.pending → length (frames_of r.pending) < r.next_frame → (epoch rest : List Entry) (fs : List Frame)
      → AreOwed (seal_done epoch rest fs r).1 p lists
  owed_sealed k held epoch rest fs =
      owed (seal_done epoch rest fs r).1 p lists (laws.owed_sealed r p 1 lists (ends r p lists h) k held epoch rest fs)

  -- A COMMIT adds the frames of the oldest epoch that wasn't committed
  pub owed_committed : IsRecord r → length (frames_of r.pending) < r.next_frame → (e : Epoch) (us : List Epoch)
      → uncommitted_of r.window r.pending ≡ e ∷ us → AreOwed (commit_done r).1 p (lists ++ e.frames ∷ [])
  owed_committed k held e us is =
      owed (commit_done r).1 p (lists ++ e.frames ∷ []) (laws.owed_committed r p 1 lists (ends r p lists h) k held e us is)

  -- AN ACKNOWLEDGEMENT: what the gate lets go has come
  pub owed_acked : (k : IsRecord r) → AreNumbered r p → length p.numbers ≡ length p.boxes → (n : ℕ) → n < r.window.to_commit
      → AreOwed (ack_done p.boxes r n).1 (ports_after_ack p r n) lists
  owed_acked k numbered clients n below =
      owed (ack_done p.boxes r n).1 (ports_after_ack p r n) lists (laws.owed_acked r p 1 lists (ends r p lists h) k numbered clients n below)

  -- a backup that keeps the last four of the lists brings what it should
  pub owed_brings : IsWindow r.window r.pending → AreNumbered r p → (sent first : ℕ) (kept : List (List Frame))
      → KeepsLast lists sent first kept → Brings r p first kept
  owed_brings k numbered sent first kept last =
      let four = last_four lists in
      let place = 1 + length (all_frames (take (length lists - 4) lists)) in
      let end : EndOwed r p place four = laws.owed_last r p 1 lists (ends r p lists h) k in
      let count = ap (λ (l : List (List Frame)). length (all_frames l)) last.last in
      let is : place ≡ first = omega (arith, count, last.number, last.count, end.count, h.count) in
      subst (λ n. Brings r p n kept) is (subst (Brings r p place) (sym last.last) (laws.owed_brings r p place four end numbered))
