-- Each event leaves what is true of every record.
use Rattle.std.proofs.Common.{rules, ◌≡◌, ℕ, suc, ◌<◌, ◌≤◌, List, [], ◌∷◌, length, get_or, refl, ap, ◌∙◌, arith, true, false}
use Rattle.std.proofs.{Common.{None, subst, sym}, lemmas.Bool.{leb-false}}
use Rattle.std.proofs.lemmas.List.{length-append, nil_from_length}
use Rattle.failover.specs.{declared.mode.Mode.Mode, declared.mode.Mode.TheVariants.{Paired, Filling, Alone, Stopped}, Modes.is_filling}
use Rattle.failover.specs.Modes.{mode_filled}
use Rattle.frame_ports.specs.Limits.{number_limit}
use Rattle.output_gate.specs.Epochs.{Epoch, after_number}
use Rattle.pair_history.specs.Entries.{Frame, Entry}
use Rattle.pair_record.specs.{declared.window.Window.Window}
use Rattle.pair_record.specs.Protocol.{landed_after, commit_done, ack_done, Record, first_refusal, cut_refusals}
use Rattle.pair_record.specs.Protocol.{cut_done, seal_done, begin_done, full_done, protect_done, failure_done}
use Rattle.pair_record.specs.{Record.{IsRecord, IsLone, SuitsMode}, Modes.is_alone, Limits.{most_pending, first_frame}}
use Rattle.pair_record.specs.{Window.{with_commit, with_acknowledged}, FailureActs.live_done}
use Rattle.pair_history.specs.Journal.{rest_of, with_history}
use Rattle.pair_record.specs.laws.{Modes.{clash, filled_alone}, Windows.{numbered_below, cut_window, commit_window, ack_window}}
use Rattle.pair_record.specs.laws.Tables.{passed}

-- The window that suits a mode: after a cut or an acknowledgement, after a commit, and once the primary stops

suits_later : (mode : Mode) (w v : Window) → w.to_cut ≤ v.to_cut → v.to_commit ≡ w.to_commit → SuitsMode mode w → SuitsMode mode v
suits_later Filling w v more same h = same ∙ h
suits_later Alone w v more same h = tt
suits_later other w v more same h = omega arith

suits_committed : (mode : Mode) (w : Window) → SuitsMode (mode_filled mode) (with_commit w)
suits_committed Alone w = tt
suits_committed other w = omega arith

-- and what it says of the numbers

suits_full : (mode : Mode) (w : Window) → is_alone mode ≡ false → is_filling mode ≡ false → SuitsMode mode w → 1 ≤ w.to_commit
suits_full Paired w two full h = h
suits_full Stopped w two full h = h
suits_full other w two full h = absurd (cc)

pub filling_not_alone : (mode : Mode) → is_filling mode ≡ true → is_alone mode ≡ false
filling_not_alone Filling e = refl
filling_not_alone other e = absurd (cc)

-- Events

length-rest : (ess : List (List Entry)) → 0 < length ess → suc (length (rest_of ess)) ≡ length ess
length-rest [] l = absurd (omega arith)
length-rest (es ∷ ess) l = refl

module _ (r : Record) (h : IsRecord r) where
  pub rising : (k : ℕ) (d : Epoch) → k < length r.pending → (get_or r.pending k d).number < r.window.to_cut
  rising = numbered_below r.window.to_acknowledge r.window.to_cut r.pending h.window.numbers (let e = h.window.count in omega arith)

  pub seal_record : (epoch rest : List Entry) (fs : List Frame) → is_alone r.mode ≡ false → length r.pending < 4
      → r.window.to_cut < number_limit → IsRecord (seal_done epoch rest fs r).1
  seal_record epoch rest fs two few last = search (arith, rules, clash, cut_window, length-append, suits_later)

  -- and where no row applies
  pub sealed_record : (epoch rest : List Entry) (fs : List Frame) → is_alone r.mode ≡ false → first_refusal (cut_refusals r) ≡ None
      → IsRecord (seal_done epoch rest fs r).1
  sealed_record epoch rest fs two free =
      let row = passed _ _ _ free in
      let next = passed _ _ _ row.1 in
      seal_record epoch rest fs two (leb-false most_pending (length r.pending) row.0) (leb-false number_limit r.window.to_cut next.0)

  pub cut_record : (fs : List Frame) → is_alone r.mode ≡ false → first_refusal (cut_refusals r) ≡ None → IsRecord (cut_done fs r).1
  cut_record fs = sealed_record r.journal.running [] fs

  pub some_sealed : r.window.to_commit < r.window.to_cut → 0 < length r.journal.sealed
  some_sealed more = let s = h.sealed in omega arith

  pub commit_record : r.window.to_commit < r.window.to_cut → IsRecord (commit_done r).1
  commit_record more = search (arith, rules, commit_window, filled_alone, length-rest, some_sealed, suits_committed)

  pub ack_record : (boxes : List (List Frame)) (n : ℕ) → n < r.window.to_commit → IsRecord (ack_done boxes r n).1
  ack_record boxes n below = record {
    window = ack_window r.window r.pending h.window n below;
    sealed = h.sealed;
    alone = λ e. ((h.alone e).0, ap (after_number n) (h.alone e).1);
    suits = suits_later r.mode r.window (with_acknowledged n r.window) (omega arith) refl h.suits;
  }

  -- where the history goes on, and the next frame has this number
  pub history_record : (es : List Entry) (next : ℕ) → IsRecord (record r { journal = with_history r.journal es; next_frame = next })
  history_record es next = record { window = h.window; sealed = h.sealed; alone = h.alone; suits = h.suits }

  -- where nothing is sealed, and an epoch enters it
  pub entered_record : IsLone r → (epoch rest : List Entry) (boxes : List (List Frame)) (leaving : List (ℕ × Frame)) (next : ℕ)
      → IsRecord (record r { journal = landed_after epoch rest boxes leaving r.journal; next_frame = next })
  entered_record k epoch rest boxes leaving next = record {
    window = h.window;
    sealed = let s = h.sealed in let n = ap (λ (ess : List (List Entry)). length ess) k.0 in omega arith;
    alone = λ e. (refl, k.1);
    suits = h.suits;
  }

  pub some_committed : is_alone r.mode ≡ false → is_filling r.mode ≡ false → 1 ≤ r.window.to_commit
  some_committed two full = suits_full r.mode r.window two full h.suits

  pub failure_record : (epoch rest : List Entry) (boxes : List (List Frame)) (frames : List Frame)
      → IsRecord (failure_done epoch rest boxes frames r).1
  failure_record epoch rest boxes frames = search (arith, rules)

pub live_record : (r : Record) → IsRecord r → (landed : List Entry) (steps : ℕ) → IsRecord (live_done landed steps r).1
live_record r h landed steps = search (arith, rules)

-- A NEW BACKUP: its full checkpoint, number 0, is all that is pending, and all that is sealed is an empty epoch

module _ (r : Record) (h : IsRecord r) (alone : is_alone r.mode ≡ true) where
  pub protect_record : IsRecord (protect_done r).1
  protect_record = search (arith, rules, length-append)

  pub begin_record : IsRecord (begin_done r).1
  begin_record = search (arith, rules)

-- where it was begun, and none is pending yet
module _ (r : Record) (h : IsRecord r) (filling : is_filling r.mode ≡ true) (none : r.window.to_cut ≡ 0) where
  pub none_yet : r.pending ≡ []
  none_yet = nil_from_length r.pending (let c = h.window.count in omega arith)

  pub full_record : IsRecord (full_done r).1
  full_record =
      let c = h.window.count in
      let anew : IsRecord (record r { next_frame = first_frame }) =
      record { window = h.window; sealed = h.sealed; alone = h.alone; suits = h.suits } in
      seal_record (record r { next_frame = first_frame }) anew [] r.journal.running [] (filling_not_alone r.mode filling) (omega arith)
      (omega arith)

-- what is the same record is one too
pub same_record : (r q : Record) → q ≡ r → IsRecord r → IsRecord q
same_record r q e h = subst IsRecord (sym e) h
