-- Where a node that is alone gets a new backup: it begins to be protected, and then an empty epoch is sealed.
use Rattle.std.proofs.Common.{◌≡◌, ◌≤◌, List, [], ◌++◌, length, take, drop, refl, sym, ap, ◌∙◌, arith}
use Rattle.frame_ports.specs.{Addresses.targets_of, Numbers.renumbered, Ports.PortsState}
use Rattle.output_gate.specs.Epochs.{Epoch, frames_of}
use Rattle.pair_history.specs.HistoryState.{HistoryState, at}
use Rattle.std.proofs.lemmas.List.{append-nil}
use Rattle.pair_record.specs.Accords.{frames_by_epoch, Accords}
use Rattle.pair_history.specs.Journal.{joined}
use Rattle.pair_record.specs.Limits.{first_frame, full_checkpoint}
use Rattle.pair_record.specs.Record.{IsLone}
use Rattle.pair_record.specs.Protocol.{Record, shown_at, live_at, begin_done, full_done, protect_done}
use Rattle.pair_record.specs.Window.{committed_count, none_pending}
use Rattle.pair_record.specs.laws.{Accords.numbered_accords, Epochs.seal_accords}
use Rattle.std.proofs.Math.Seq.{take-nil, drop-nil}

module _ (start : HistoryState) (r : Record) (p : PortsState) (h : Accords start r p) where
  -- its frames are numbered anew
  abbrev pub full_accords : committed_count r.window ≤ length r.pending → Accords start (full_done r).1 (renumbered p)
  full_accords enough =
      seal_accords start (record r { next_frame = first_frame }) (renumbered p) (numbered_accords start r p h first_frame (renumbered p).numbers)
      [] h.journal.running_moves [] r.journal.running refl h.journal.running_are h.journal.can refl [] refl enough

  module _ (k : IsLone r) where
    -- where nothing runs either, nothing is kept
    pub lives : r.journal.running ≡ [] → live_at start r ≡ shown_at start r
    lives still = ap (at start) ((λ i. r.journal.history ++ (joined (k.0 i) ++ still i)) ∙ append-nil r.journal.history)

    abbrev pub begin_accords : Accords start (begin_done r).1 p
    begin_accords =
        let n = length p.boxes in
        let m = committed_count r.window in
        record {
          journal = h.journal;
          frames = sym (ap (λ (es : List Epoch). frames_by_epoch (drop m es)) k.1 ∙ ap frames_by_epoch (drop-nil m)) ∙ h.frames;
          clients = h.clients;
          owed =
              h.owed ∙ (λ i. targets_of n (frames_of (take m (k.1 i))))
              ∙ ap (λ (es : List Epoch). targets_of n (frames_of es)) (take-nil m);
        }

pub none_before : committed_count (none_pending full_checkpoint) ≤ length {A = Epoch} []
none_before = omega arith

module _ (start : HistoryState) (r : Record) (p : PortsState) (h : Accords start r p) (k : IsLone r) where
  abbrev pub protect_accords : Accords start (protect_done r).1 (renumbered p)
  protect_accords = full_accords start (begin_done r).1 p (begin_accords start r p h k) none_before
