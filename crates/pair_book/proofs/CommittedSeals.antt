-- What the other steps keep of what the backup has committed: an epoch is sealed or enters the history, and the backup goes live.
use Rattle.std.proofs.Common.{◌≡◌, ℕ, ◌<◌, ◌≤◌, List, [], ◌∷◌, ◌++◌, length, take, drop, sym, ap, ◌∙◌, subst, true, false, arith}
use Rattle.frame_ports.specs.Ports.{PortsState}
use Rattle.output_gate.specs.Epochs.{Epoch, frames_of}
use Rattle.pair_history.specs.Entries.{Frame, Entry}
use Rattle.pair_history.specs.HistoryState.{HistoryState}
use Rattle.pair_record.specs.Kept.{frames_by_epoch}
use Rattle.pair_record.specs.Modes.{is_alone}
use Rattle.pair_record.specs.Protocol.{Record, seal_done, full_done}
use Rattle.pair_record.specs.Window.{IsWindow, committed_count}
use Rattle.growing_history.specs.Steps.{Sealed, RanAlone, WentLive, Step, step}
use Rattle.growing_history.specs.{LogState.state_at, SealedTexts.IsMade}
use Rattle.pair_book.specs.Made.{Reads}
use Rattle.pair_book.specs.Standing.{commits_of}
use Rattle.pair_book.specs.internal.Committed.{AreOwed, KeepsCommitted}
use Rattle.pair_book.proofs.{CommittedLaws.owed_sealed, CommittedTies.{step-keeps, keeps-as}}

module _ (start : HistoryState) (steps : List Step) (r now : Record) (p q : PortsState) (h : KeepsCommitted start steps r p) (by : ℕ)
    (g n : ℕ) (epoch : List Entry) (text : List ℕ)
    (made : IsMade (Reads start) (state_at start steps) (Sealed g n epoch text)) where
  -- A DELTA IS SEALED: what is sealed isn't committed
  pub sealed-keeps : IsWindow r.window r.pending → length (frames_of r.pending) < r.next_frame → 1 ≤ r.window.to_cut
      → is_alone r.mode ≡ false → (es rest : List Entry) (fs : List Frame) → now ≡ (seal_done es rest fs r).1 → q ≡ p
      → KeepsCommitted start (steps ++ step by (Sealed g n epoch text) ∷ []) now q
  sealed-keeps k held some pair es rest fs is ports =
      keeps-as is ports
      (step-keeps start steps r (seal_done es rest fs r).1 p p h by (Sealed g n epoch text) made h.none
      (λ m a c. owed_sealed r p (commits_of start steps) (h.owed m pair some) k held es rest fs))

  -- A FULL CHECKPOINT IS SEALED, the first of its backup: nothing is committed, and the guest's frames are numbered from 1 anew. The epoch
  -- before it has entered the history by then, which leaves the window and what is pending.
  module _ (before : Record) (window : before.window ≡ r.window) (empty : before.pending ≡ []) (first : r.window.to_commit ≡ 0)
      (is : now ≡ (full_done before).1) where
    zero-committed : committed_count now.window ≡ 0
    zero-committed =
        let a = ap (λ (y : Record). y.window.to_commit) is in
        let b = ap (λ w. w.to_commit) window in
        omega (arith, a, b, first)

    full-owed : AreOwed now q []
    full-owed =
        let e : Epoch = record { number = before.window.to_cut; frames = [] } in
        let pending : now.pending ≡ e ∷ [] = ap (λ (y : Record). y.pending) is ∙ ap (λ (es : List Epoch). es ++ e ∷ []) empty in
        let next : now.next_frame ≡ 1 = ap (λ (y : Record). y.next_frame) is in
        let left : length (frames_of (drop (committed_count now.window) now.pending)) ≡ 0 =
        λ i. length (frames_of (drop (zero-committed i) (pending i))) in
        record {
          older = [];
          all = ap (λ k. frames_by_epoch (take k now.pending)) (sym zero-committed);
          came = tt;
          count = omega (arith, next, left);
        }

    pub full-keeps : KeepsCommitted start (steps ++ step by (Sealed g n epoch text) ∷ []) now q
    full-keeps =
        let none = h.none first in
        step-keeps start steps r now p q h by (Sealed g n epoch text) made (λ z. none)
        (λ m a c. subst (AreOwed now q) (sym none) full-owed)

module _ (start : HistoryState) (steps : List Step) (r now : Record) (p q : PortsState) (h : KeepsCommitted start steps r p) (by : ℕ)
    (alone : is_alone now.mode ≡ true) (same : now.window.to_commit ≡ r.window.to_commit) where
  -- THE NODE RAN ALONE
  pub lone-keeps : (epoch : List Entry) → KeepsCommitted start (steps ++ step by (RanAlone epoch) ∷ []) now q
  lone-keeps epoch =
      step-keeps start steps r now p q h by (RanAlone epoch) tt (λ z. h.none (sym same ∙ z)) (λ m a c. absurd (cc (alone, a)))

  -- THE BACKUP GOES LIVE: a node is alone
  pub live-keeps : (runner : ℕ) → KeepsCommitted start (steps ++ step by (WentLive runner) ∷ []) now q
  live-keeps runner =
      step-keeps start steps r now p q h by (WentLive runner) tt (λ z. h.none (sym same ∙ z)) (λ m a c. absurd (cc (alone, a)))
