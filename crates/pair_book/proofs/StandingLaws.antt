-- A backup goes on standing: when it looks, and by its commits.
use Rattle.std.proofs.Common.{◌≡◌, ℕ, zero, suc, ◌+◌, ◌-◌, ◌≤◌, List, [], ◌∷◌, ◌++◌, length, drop, sym, ap, ◌∙◌, subst, refl, false, arith}
use Rattle.std.proofs.Common.{Option}
use Rattle.std.proofs.lemmas.List.{append-nil, drop-append-le, drop-drop, length-append, length-drop}
use Rattle.std.specs.Prelude.{IsSome}
use Rattle.failover.specs.declared.mode.Mode.{Mode}
use Rattle.failover.specs.declared.mode.Mode.TheVariants.{Stopped}
use Rattle.frame_ports.specs.Ports.{PortsState}
use Rattle.guest_rules.specs.Guest.{Guest}
use Rattle.pair_history.specs.Entries.{Frame}
use Rattle.pair_history.specs.HistoryState.{HistoryState}
use Rattle.pair_record.specs.Kept.{all_frames, Brings}
use Rattle.pair_record.specs.Modes.{is_alone}
use Rattle.pair_record.specs.Protocol.{Record}
use Rattle.pair_record.specs.Record.{IsRecord, AreNumbered, SuitsMode}
use Rattle.pair_record.specs.Landed.{all_frames-append}
use Rattle.growing_history.specs.Steps.{Step, Begins, steps_by}
use Rattle.growing_history.specs.LogState.{LogState, LegalSteps, state_at, IsAlone}
use Rattle.growing_history.specs.Views.{Member}
use Rattle.growing_history.specs.laws.Logs.{live-rise, marks-rise}
use Rattle.growing_history.specs.laws.MissedByBackup.{backup-misses-nothing}
use Rattle.pair_book.specs.declared.failures.Ack.{Ack}
use Rattle.pair_book.specs.Standing.{commits_of, last_four, KeepsLast, KeepsFrames, ack_before, Stands}
use Rattle.pair_book.specs.internal.{Committed.KeepsCommitted, Tie.IsTied}
use Rattle.pair_book.proofs.{AckLaws.acks-missed, CommittedLaws.{commits-missed, owed_brings}, CommitTies.not-alone, Ties.sealed-long}
use Rattle.failover.specs.Modes.{is_filling}

-- IT LOOKS, and has made no step since
module _ (start : HistoryState) (seat : Member) (now : List Step) (sent first : ℕ) (kept : List (List Frame))
    (b : Begins seat.steps now) (l : LegalSteps start now) (own : steps_by seat.number now ≡ steps_by seat.number seat.steps)
    (h : KeepsFrames start seat sent first kept) where
  abbrev looked : Member
  looked = record { number = seat.number; steps = now }

  rise : (state_at start seat.steps).backup ≤ (state_at start now).backup
  rise = (live-rise start seat.steps now b l).1

  pub frames-on : KeepsFrames start looked sent first kept
  frames-on = record {
    born = omega (arith, h.born, rise);
    keeps = λ live none.
        let was : (state_at start seat.steps).backup ≡ seat.number = omega (arith, h.born, rise, live.0) in
        let stays = backup-misses-nothing start seat.steps now seat.number b l own was (sym live.0) live.1 in
        let same = commits-missed start seat.steps now seat.number b l own was (sym live.0) in
        let marks = marks-rise start seat.steps now b in
        let before : (state_at start seat.steps).marked ≡ 0 = omega (arith, marks, none) in
        subst (λ lists. KeepsLast lists sent first kept) (sym same) (h.keeps (sym was, stays.0) before);
  }

  -- so where the book's list is what it sees now, it brings what it should
  pub frames-bring : (r : Record) (p : PortsState) → IsTied start now r p → KeepsCommitted start now r p → IsRecord r → AreNumbered r p
      → is_alone r.mode ≡ false → 1 ≤ r.window.to_cut → seat.number ≡ (state_at start now).backup → (state_at start now).marked ≡ 0
      → Brings r p first kept
  frames-bring r p t c k numbered pair some mine none =
      let paired : IsAlone (state_at start now).mode → ⊥ = subst (λ m. IsAlone m → ⊥) t.mode (not-alone r.mode pair) in
      owed_brings r p (commits_of start now) (c.owed none pair some) k.window numbered sent first kept
      (frames-on.keeps (mine, paired) none)

-- its image, too
module _ (start : HistoryState) (seat : Member) (now : List Step) (image : Guest) (last : Option Ack) (sent first : ℕ)
    (kept : List (List Frame)) (b : Begins seat.steps now) (l : LegalSteps start now)
    (own : steps_by seat.number now ≡ steps_by seat.number seat.steps) (h : Stands start seat image last sent first kept) where
  abbrev s : LogState
  s = state_at start seat.steps

  abbrev t : LogState
  t = state_at start now

  was : seat.number ≡ t.backup → s.backup ≡ seat.number
  was live = let rise = (live-rise start seat.steps now b l).1 in omega (arith, h.frames.born, rise, live)

  pub stands-on : Stands start (record { number = seat.number; steps = now }) image last sent first kept
  stands-on = record {
    frames = frames-on start seat now sent first kept b l own h.frames;
    committed = λ live.
        let stays = backup-misses-nothing start seat.steps now seat.number b l own (was live.0) (sym live.0) live.1 in
        h.committed (sym (was live.0), stays.0)
        ∙ sym (acks-missed start seat.steps now seat.number b l own (was live.0) (sym live.0) live.1);
    guest = λ live none filled.
        let stays = backup-misses-nothing start seat.steps now seat.number b l own (was live.0) (sym live.0) live.1 in
        let before : is_filling s.mode ≡ false = sym stays.1 ∙ filled in
        let unmarked : s.marked ≡ 0 = let marks = marks-rise start seat.steps now b in omega (arith, marks, none) in
        h.guest (sym (was live.0), stays.0) unmarked before ∙ sym (stays.2 before);
  }

-- WHERE ITS PRIMARY HAS STOPPED in a pair, something was committed to its image
some-ack : (g n : ℕ) (last : Option Ack) → 1 ≤ n → last ≡ ack_before g n → IsSome last
some-ack g zero last low is = absurd (omega (arith, low))
some-ack g (suc n) last low is = subst (λ (l : Option Ack). IsSome l) (sym is) refl

pub has-image : (start : HistoryState) (steps : List Step) (r : Record) (p : PortsState) → IsTied start steps r p → IsRecord r
    → r.mode ≡ Stopped → (number : ℕ) → number ≡ (state_at start steps).backup → (image : Guest) (last : Option Ack) (sent first : ℕ)
    (kept : List (List Frame)) → Stands start (record { number = number; steps = steps }) image last sent first kept → IsSome last
has-image start steps r p t k stopped number mine image last sent first kept stood =
    let s = state_at start steps in
    let pair : IsAlone s.mode → ⊥ = subst (λ (m : Mode). IsAlone m → ⊥) (sym stopped ∙ t.mode) (λ a. a) in
    let low : 1 ≤ r.window.to_commit = subst (λ (m : Mode). SuitsMode m r.window) stopped k.suits in
    let long = sealed-long start steps r p t in
    some-ack s.generation (s.next - length s.sealed) last (omega (arith, low, long, k.sealed, t.next)) (stood.committed (mine, pair))

-- and unless a commit is marked it was the guest of the history when it looked last
pub seen-guest : (start : HistoryState) (seat : Member) (now : List Step) → Begins seat.steps now → LegalSteps start now
    → steps_by seat.number now ≡ steps_by seat.number seat.steps → (state_at start now).mode ≡ Stopped
    → seat.number ≡ (state_at start now).backup → (image : Guest) (last : Option Ack) (sent first : ℕ) (kept : List (List Frame))
    → Stands start seat image last sent first kept → (state_at start seat.steps).marked ≡ 0
    → image ≡ (state_at start seat.steps).history.guest
seen-guest start seat now b l own stopped mine image last sent first kept h none =
    let pair : IsAlone (state_at start now).mode → ⊥ = subst (λ (m : Mode). IsAlone m → ⊥) (sym stopped) (λ a. a) in
    let live = was start seat now image last sent first kept b l own h mine in
    let stays = backup-misses-nothing start seat.steps now seat.number b l own live (sym mine) pair in
    h.guest (sym live, stays.0) none (sym stays.1 ∙ ap is_filling stopped)

-- IT COMMITS a checkpoint that carries these frames, and lets go of the oldest ones
last-four-more : (lists : List (List Frame)) (fs : List Frame) → last_four (last_four lists ++ fs ∷ []) ≡ last_four (lists ++ fs ∷ [])
last-four-more lists fs =
    let n = length lists - 4 in
    let few : n ≤ length lists = omega arith in
    let kept : drop n (lists ++ fs ∷ []) ≡ last_four lists ++ fs ∷ [] = drop-append-le n lists (fs ∷ []) few in
    let long = length-append (last_four lists) (fs ∷ []) in
    let all = length-append lists (fs ∷ []) in
    let less : length (last_four lists) ≡ length lists - n = length-drop n lists in
    let m = length (last_four lists ++ fs ∷ []) - 4 in
    let place : n + m ≡ length (lists ++ fs ∷ []) - 4 = omega (arith, long, all, less) in
    ap (drop m) (sym kept) ∙ drop-drop m n (lists ++ fs ∷ []) ∙ ap (λ k. drop k (lists ++ fs ∷ [])) place

pub keeps-more : (lists kept : List (List Frame)) (sent first : ℕ) (fs : List Frame) → KeepsLast lists sent first kept
    → KeepsLast (lists ++ fs ∷ []) (sent + length fs)
    ((sent + length fs) + 1 - length (all_frames (last_four (kept ++ fs ∷ [])))) (last_four (kept ++ fs ∷ []))
keeps-more lists kept sent first fs h = record {
  last = ap (λ (l : List (List Frame)). last_four (l ++ fs ∷ [])) h.last ∙ last-four-more lists fs;
  count =
      let all = ap (λ (gs : List Frame). length gs)
      (all_frames-append lists (fs ∷ []) ∙ ap (λ (gs : List Frame). all_frames lists ++ gs) (append-nil fs))
      ∙ length-append (all_frames lists) fs in
      omega (arith, h.count, all);
  number = refl;
}
