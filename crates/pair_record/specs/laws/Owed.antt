-- Lists of frames that end with what the gate holds of committed checkpoints stay such through each event: those that a backup keeps, and
-- those of all that it has committed.
use Rattle.std.proofs.Common.{◌≡◌, ℕ, ◌+◌, ◌-◌, ◌<◌, ◌≤◌, List, [], ◌∷◌, ◌++◌, length, take, drop, sym, ap, ◌∙◌, subst, arith}
use Rattle.std.proofs.{Common.{append_assoc, refl}, lemmas.List.{append-nil, drop-append-le, length-append, length-map, map-append}}
use Rattle.std.proofs.lemmas.List.{take-append-drop, take-append-le, take_all}
use Rattle.frame_ports.specs.Ports.{PortsState}
use Rattle.output_gate.specs.{Epochs.{Epoch, frames_of, frames_to}, Landings.{ports_after, AreOld, HaveRisen}}
use Rattle.output_gate.specs.laws.{Ports.{risen-same, risen-after, ports_after-append}, Old.{old-after, old-append, old-back, old-risen}}
use Rattle.output_gate.specs.laws.Old.{ports_after-old}
use Rattle.pair_history.specs.{Entries.{Frame, Entry}, Landings.landings}
use Rattle.pair_record.specs.Kept.{all_frames, frames_by_epoch, Brings, EndOwed, entries_after, brought, brought_entries}
use Rattle.pair_record.specs.Kept.{ports_after_brought}
use Rattle.pair_record.specs.{FailureActs.first_uncommitted, Protocol.{Record, seal_done, commit_done, ack_done}, Record.IsRecord}
use Rattle.pair_record.specs.{Record.{AreNumbered, first_held, ports_after_ack, owed_to, ports_after_live}, Window.IsWindow}
use Rattle.pair_record.specs.{Window.{committed_of, uncommitted_of, committed_count}, Tables.Record}
use Rattle.pair_record.specs.laws.Accords.{next_epoch}
use Rattle.pair_record.specs.laws.Windows.{frames_of-push, next_committed, leaves, gone, committed_left, uncommitted_left, within}
use Rattle.pair_record.specs.laws.Numbers.{in_two, landed_ports, each_below, first_positive}
use Rattle.pair_history.specs.laws.Landed.{all_frames-append, entries-append, entries-new, entries-old}

pub all_frames-epochs : (es : List Epoch) → all_frames (frames_by_epoch es) ≡ frames_of es
all_frames-epochs [] = refl
all_frames-epochs (e ∷ es) = ap (λ (t : List Frame). e.frames ++ t) (all_frames-epochs es)

-- the frames of one list more
pub count-push : (fss : List (List Frame)) (fs : List Frame) → length (all_frames (fss ++ fs ∷ [])) ≡ length (all_frames fss) + length fs
count-push fss fs =
    ap (λ (gs : List Frame). length gs)
    (all_frames-append fss (fs ∷ []) ∙ ap (λ (gs : List Frame). all_frames fss ++ gs) (append-nil fs))
    ∙ length-append (all_frames fss) fs

module _ (r : Record) (p : PortsState) (first : ℕ) (lists : List (List Frame)) (h : EndOwed r p first lists) where
  abbrev owed : List Epoch
  owed = committed_of r.window r.pending

  owed_all : all_frames lists ≡ all_frames h.older ++ frames_of owed
  owed_all =
      ap all_frames h.all ∙ all_frames-append h.older (frames_by_epoch owed)
      ∙ ap (λ t. all_frames h.older ++ t) (all_frames-epochs owed)

  owed_count : length (all_frames lists) ≡ length (all_frames h.older) + length (frames_of owed)
  owed_count = ap (λ (fs : List Frame). length fs) owed_all ∙ length-append (all_frames h.older) (frames_of owed)

  -- behind the older frames come those that the gate holds
  owed_number : length (frames_of r.pending) < r.next_frame → first + length (all_frames h.older) ≡ first_held r
  owed_number held = omega (arith, held, owed_count, in_two r, h.count)

  pub owed_brings : AreNumbered r p → Brings r p first lists
  owed_brings k = record { older = all_frames h.older; all = owed_all; number = owed_number k.held; came = h.came }

  -- another record with the same frames of committed checkpoints, and ports at which as much has come
  pub owed_on : (s : Record) (q : PortsState) → first_uncommitted s ≡ first_uncommitted r → committed_of s.window s.pending ≡ owed
      → HaveRisen p q → EndOwed s q first lists
  owed_on s q number same risen = record {
    older = h.older;
    all = h.all ∙ ap (λ (es : List Epoch). h.older ++ frames_by_epoch es) (sym same);
    came = old-risen p q first (all_frames h.older) risen h.came;
    count = h.count ∙ sym number;
  }

  -- what is sealed is not committed yet
  pub owed_sealed : IsWindow r.window r.pending → length (frames_of r.pending) < r.next_frame → (epoch rest : List Entry) (fs : List Frame)
      → EndOwed (seal_done epoch rest fs r).1 p first lists
  owed_sealed k held epoch rest fs =
      let e : Epoch = record { number = r.window.to_cut; frames = fs } in
      let m = committed_count r.window in
      let others = uncommitted_of r.window r.pending in
      let enough = within r.window r.pending k in
      let more : uncommitted_of r.window (r.pending ++ e ∷ []) ≡ others ++ e ∷ [] = drop-append-le m r.pending (e ∷ []) enough in
      let a = ap (λ (es : List Epoch). length (frames_of es)) more
      ∙ ap (λ (gs : List Frame). length gs) (frames_of-push others e) ∙ length-append (frames_of others) fs in
      let number : first_uncommitted (seal_done epoch rest fs r).1 ≡ first_uncommitted r = omega (arith, a, in_two r, held) in
      owed_on (seal_done epoch rest fs r).1 p number (take-append-le m r.pending (e ∷ []) enough) (risen-same p p refl refl)

  -- A COMMIT adds the frames of the oldest epoch that wasn't committed
  pub owed_committed : IsRecord r → length (frames_of r.pending) < r.next_frame → (e : Epoch) (us : List Epoch)
      → uncommitted_of r.window r.pending ≡ e ∷ us → EndOwed (commit_done r).1 p first (lists ++ e.frames ∷ [])
  owed_committed k held e us is =
      let m = committed_count r.window in
      let next = next_epoch m r.pending e us is in
      let more = next_committed r.window r.pending k.window in
      let now : committed_of (commit_done r).1.window r.pending ≡ owed ++ e ∷ [] = ap (λ n. take n r.pending) more ∙ next.0 in
      let left : uncommitted_of (commit_done r).1.window r.pending ≡ us = ap (λ n. drop n r.pending) more ∙ next.1 in
      let others = ap (λ (es : List Epoch). length (frames_of es)) is ∙ length-append e.frames (frames_of us) in
      let rest = ap (λ (es : List Epoch). length (frames_of es)) left in
      record {
        older = h.older;
        all =
            ap (λ l. l ++ e.frames ∷ []) h.all
            ∙ append_assoc h.older (frames_by_epoch owed) (e.frames ∷ [])
            ∙ ap (λ l. h.older ++ l) (sym (map-append (λ (x : Epoch). x.frames) owed (e ∷ [])))
            ∙ ap (λ (es : List Epoch). h.older ++ frames_by_epoch es) (sym now);
        came = h.came;
        count = omega (arith, count-push lists e.frames, others, rest, in_two r, held, h.count);
      }

  -- AN ACKNOWLEDGEMENT: what the gate lets go has come
  pub owed_acked : (k : IsRecord r) → AreNumbered r p → length p.numbers ≡ length p.boxes → (n : ℕ) → n < r.window.to_commit
      → EndOwed (ack_done p.boxes r n).1 (ports_after_ack p r n) first lists
  owed_acked k numbered clients n below =
      let w = k.window in
      let t = leaves r.window r.pending w n below in
      let q = ports_after p (first_held r) (frames_to n r.pending) in
      let ports : q ≡ ports_after_ack p r n = landed_ports r p numbered (frames_to n r.pending) in
      let left = committed_left r.window r.pending w n below in
      let others = uncommitted_left r.window r.pending w n below in
      let parts : frames_by_epoch owed ≡ frames_by_epoch t.gone ++ frames_by_epoch t.stay =
      ap frames_by_epoch t.split ∙ map-append (λ (x : Epoch). x.frames) t.gone t.stay in
      let now : frames_to n r.pending ≡ frames_of t.gone = gone r.window r.pending w n below in
      let older = h.older ++ frames_by_epoch t.gone in
      let all : all_frames older ≡ all_frames h.older ++ frames_to n r.pending =
      all_frames-append h.older (frames_by_epoch t.gone)
      ∙ ap (λ fs. all_frames h.older ++ fs) (all_frames-epochs t.gone ∙ sym now) in
      let before : AreOld q first (all_frames h.older) =
      old-risen p q first (all_frames h.older) (risen-after p (first_held r) (frames_to n r.pending)) h.came in
      let these : AreOld q (first + length (all_frames h.older)) (frames_to n r.pending) =
      subst (λ x. AreOld q x (frames_to n r.pending)) (sym (owed_number numbered.held))
      (old-after p (first_held r) (frames_to n r.pending) clients) in
      record {
        older = older;
        all =
            h.all ∙ ap (λ l. h.older ++ l) parts ∙ sym (append_assoc h.older (frames_by_epoch t.gone) (frames_by_epoch t.stay))
            ∙ ap (λ (es : List Epoch). older ++ frames_by_epoch es) (sym left);
        came =
            subst (λ x. AreOld x first (all_frames older)) ports
            (subst (AreOld q first) (sym all) (old-append q first (all_frames h.older) (frames_to n r.pending) before these));
        count = h.count ∙ sym (ap (λ (es : List Epoch). r.next_frame - length (frames_of es)) others);
      }

  -- of more than four lists the older ones may be left out
  pub owed_last : IsWindow r.window r.pending
      → EndOwed r p (first + length (all_frames (take (length lists - 4) lists))) (drop (length lists - 4) lists)
  owed_last k =
      let n = length lists - 4 in
      let few : n ≤ length h.older =
      let a = ap (λ (l : List (List Frame)). length l) h.all ∙ length-append h.older (frames_by_epoch owed) in
      let b = length-map owed (λ (x : Epoch). x.frames) in
      let d = ap (λ (es : List Epoch). length es) (sym (take-append-drop (committed_count r.window) r.pending))
      ∙ length-append owed (uncommitted_of r.window r.pending) in
      omega (arith, a, b, d, k.few) in
      let rest = drop n h.older in
      let is : drop n lists ≡ rest ++ frames_by_epoch owed = ap (drop n) h.all ∙ drop-append-le n h.older (frames_by_epoch owed) few in
      let gone_before : take n lists ≡ take n h.older = ap (take n) h.all ∙ take-append-le n h.older (frames_by_epoch owed) few in
      let whole : all_frames h.older ≡ all_frames (take n h.older) ++ all_frames rest =
      ap all_frames (sym (take-append-drop n h.older)) ∙ all_frames-append (take n h.older) rest in
      let halves = ap (λ (fs : List Frame). length fs) whole ∙ length-append (all_frames (take n h.older)) (all_frames rest) in
      let all = ap (λ (fs : List Frame). length fs)
      (ap all_frames is ∙ all_frames-append rest (frames_by_epoch owed) ∙ ap (λ fs. all_frames rest ++ fs) (all_frames-epochs owed))
      ∙ length-append (all_frames rest) (frames_of owed) in
      let place : first + length (all_frames (take n h.older)) ≡ first + length (all_frames (take n lists)) =
      ap (λ (l : List (List Frame)). first + length (all_frames l)) (sym gone_before) in
      record {
        older = rest;
        all = is;
        came =
            subst (λ m. AreOld p m (all_frames rest)) place
            (old-back p first (all_frames (take n h.older)) (all_frames rest) (subst (AreOld p first) whole h.came));
        count = omega (arith, place, halves, all, owed_count, h.count);
      }

-- WHAT A BACKUP BRINGS that goes live lands as what the gate held of committed checkpoints

module _ (r : Record) (p : PortsState) (h : AreNumbered r p) (first : ℕ) (lists : List (List Frame)) (b : Brings r p first lists) where
  abbrev committed : List Frame
  committed = frames_of (committed_of r.window r.pending)

  -- all of it was committed
  brought_all : brought r first lists ≡ b.older ++ committed
  brought_all =
      let all = ap (λ (fs : List Frame). length fs) b.all ∙ length-append b.older committed in
      let a = b.number in
      let c = in_two r in
      let d = h.held in
      take_all (first_uncommitted r - first) (all_frames lists) (omega arith) ∙ b.all

  -- what lands, and where
  pub brought_ports : ports_after_brought p r first lists ≡ ports_after_live p r
  brought_ports =
      ap (ports_after p first) brought_all
      ∙ ports_after-append p first b.older committed
      ∙ ap (λ n. ports_after (ports_after p first b.older) n committed) b.number
      ∙ ap (λ (q : PortsState). ports_after q (first_held r) committed) (ports_after-old p first b.older b.came)
      ∙ landed_ports r p h committed

  pub brought_landings : brought_entries r p first lists ≡ landings p.boxes (owed_to r p)
  brought_landings =
      ap (entries_after p first) brought_all
      ∙ entries-append p first (first_held r) b.older committed (sym b.number)
      ∙ ap (λ es. es ++ entries_after (ports_after p first b.older) (first_held r) committed) (entries-old p first b.older b.came)
      ∙ ap (λ (q : PortsState). entries_after q (first_held r) committed) (ports_after-old p first b.older b.came)
      ∙ entries-new p (first_held r) committed (each_below p (first_held r) (first_positive r p h) h.new)
