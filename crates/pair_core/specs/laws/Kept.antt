-- What the backup keeps of the guest's frames stays what the gate may still owe, through each event.
use Rattle.std.proofs.Common.{◌≡◌, ℕ, ◌+◌, ◌-◌, ◌<◌, ◌≤◌, List, [], ◌∷◌, ◌++◌, length, take, drop, refl, sym, ap, ◌∙◌, subst, arith}
use Rattle.std.proofs.{Common.{Bool, true, false, cond}, lemmas.Bool.eqb-true}
use Rattle.std.proofs.lemmas.List.{length-append, length-drop, length-map, Sums.sum_by-cons, get_or-map}
use Rattle.std.specs.Prelude.{All, map, ◌==◌}
use Rattle.epoch_snapshot.specs.Checkpoints.{Change}
use Rattle.frame_ports.specs.{Limits.number_limit, Ports.PortsState}
use Rattle.output_gate.specs.{Epochs.{Epoch, frames_of}, Landings.{AreOld, HaveRisen}}
pub use Rattle.output_gate.specs.laws.Ports.{risen-same}
use Rattle.backup_image.specs.{Images.ImageState, Kept.{count_kept, kept_after, kept_before, kept_with, sent_with}}
use Rattle.pair_history.specs.Entries.{Frame, Entry}
use Rattle.pair_record.specs.{Kept.{all_frames, frames_by_epoch, Brings}, Limits.last_frame, FailureActs.first_uncommitted}
use Rattle.pair_record.specs.Protocol.{Record, seal_done, commit_done, ack_done}
use Rattle.pair_record.specs.Record.{IsRecord, AreNumbered, ports_after_ack}
use Rattle.pair_record.specs.Window.{IsWindow, committed_of, uncommitted_of, committed_count}
use Rattle.pair_record.specs.Kept.{EndOwed}
use Rattle.pair_record.specs.laws.Owed.{count-push, owed_brings, owed_on, owed_sealed, owed_committed, owed_acked, owed_last}
use Rattle.pair_record.specs.laws.{Numbers.in_two, Records.commit_record}
use Rattle.pair_core.specs.Kept.{KeepsFrames, first_kept}

pub count-kept : (lists : List (List Frame)) → count_kept lists ≡ length (all_frames lists)
count-kept [] = refl
count-kept (fs ∷ fss) =
    sum_by-cons (λ (gs : List Frame). length gs) fs fss ∙ ap (λ n. length fs + n) (count-kept fss) ∙ sym (length-append fs (all_frames fss))

-- what holds of each list that a value stands for
pub each-of : {X : Type 0} (f : X → List Frame) (P : List Frame → Type 0) (xs : List X) → All P (map f xs) → All (λ x. P (f x)) xs
each-of f P xs h k d within =
    let long = length-map xs f in
    subst P (get_or-map f xs k d (f d) within) (h k (f d) (omega arith))

-- an image keeps the frames that the gate may still owe where its lists end with them, from the number of its first frame on
keeps : (r : Record) (p : PortsState) (i : ImageState) (first : ℕ) → 1 ≤ first → first + length (all_frames i.kept) ≡ i.sent + 1
    → EndOwed r p first i.kept → KeepsFrames r p i
keeps r p i first some last e = record {
  sent = sym last ∙ e.count;
  numbers = omega (arith, some, last);
  older = e.older;
  lists = e.all;
  came = let place : first ≡ first_kept i = omega (arith, last) in subst (λ n. AreOld p n (all_frames e.older)) place e.came;
}

module _ (r : Record) (p : PortsState) (i : ImageState) (h : KeepsFrames r p i) where
  some : 1 ≤ first_kept i
  some = omega (arith, h.numbers)

  last : first_kept i + length (all_frames i.kept) ≡ i.sent + 1
  last = omega (arith, h.numbers)

  end : EndOwed r p (first_kept i) i.kept
  end = record { older = h.older; all = h.lists; came = h.came; count = last ∙ h.sent }

  pub keeps_brings : AreNumbered r p → Brings r p (first_kept i) i.kept
  keeps_brings k = owed_brings r p (first_kept i) i.kept end k

  -- another record with the same frames of committed checkpoints, ports at which as much has come, and an image that keeps the same
  pub keeps_on : (s : Record) (q : PortsState) (j : ImageState) → first_uncommitted s ≡ first_uncommitted r
      → committed_of s.window s.pending ≡ committed_of r.window r.pending → HaveRisen p q → j.kept ≡ i.kept → j.sent ≡ i.sent
      → KeepsFrames s q j
  keeps_on s q j first same risen kept sent =
      keeps s q j (first_kept i) some (ap (λ (l : List (List Frame)). first_kept i + length (all_frames l)) kept ∙ last ∙ ap (λ n. n + 1) (sym sent))
      (subst (EndOwed s q (first_kept i)) (sym kept) (owed_on r p (first_kept i) i.kept end s q first same risen))

  -- A CUT adds to what isn't committed
  pub keeps_cut : IsWindow r.window r.pending → length (frames_of r.pending) < r.next_frame → (epoch rest : List Entry) (fs : List Frame)
      → KeepsFrames (seal_done epoch rest fs r).1 p i
  keeps_cut k held epoch rest fs =
      keeps (seal_done epoch rest fs r).1 p i (first_kept i) some last (owed_sealed r p (first_kept i) i.kept end k held epoch rest fs)

  -- A COMMIT: the image takes in the frames of the oldest epoch that wasn't committed
  module _ (k : IsRecord r) (held : length (frames_of r.pending) < r.next_frame) (e : Epoch) (us : List Epoch)
      (is : uncommitted_of r.window r.pending ≡ e ∷ us) (c : Change) (frames : c.frames ≡ e.frames)
      (full : c.number ≡ 0 → (i.kept ≡ []) × (i.sent ≡ 0)) where
    kept_so : kept_with c i.kept ≡ kept_after i.kept e.frames
    kept_so = ap (kept_after (kept_before c i.kept)) frames ∙ ap (λ l. kept_after l e.frames) (by_number (c.number == 0) refl)
      where
        by_number : (t : Bool) → (c.number == 0) ≡ t → cond t [] i.kept ≡ i.kept
        by_number true n = sym (full (eqb-true c.number 0 n)).0
        by_number false n = refl

    sent_so : sent_with c i.sent ≡ i.sent + length e.frames
    sent_so = (λ x. by_number (c.number == 0) refl x + length (frames x))
      where
        by_number : (t : Bool) → (c.number == 0) ≡ t → cond t 0 i.sent ≡ i.sent
        by_number true n = sym (full (eqb-true c.number 0 n)).1
        by_number false n = refl

    others : length (frames_of (uncommitted_of r.window r.pending)) ≡ length e.frames + length (frames_of us)
    others = ap (λ (es : List Epoch). length (frames_of es)) is ∙ length-append e.frames (frames_of us)

    -- which has a number
    pub commit_fits : r.next_frame ≤ last_frame + 512 → sent_with c i.sent < number_limit
    commit_fits left =
        let a = sent_so in
        let b = others in
        let d = h.sent in
        let f = in_two r in
        omega arith

    pub keeps_commit : (j : ImageState) → j.kept ≡ kept_with c i.kept → j.sent ≡ sent_with c i.sent → KeepsFrames (commit_done r).1 p j
    keeps_commit j kept sent =
        let more : r.window.to_commit < r.window.to_cut =
        let a = ap (λ (es : List Epoch). length es) is in
        let b = length-drop (committed_count r.window) r.pending in
        omega (arith, a, b, k.window.count, k.window.committed) in
        let lists = i.kept ++ e.frames ∷ [] in
        let all = owed_committed r p (first_kept i) i.kept end k held e us is in
        let four = owed_last (commit_done r).1 p (first_kept i) lists all (commit_record r k more).window in
        let first = first_kept i + length (all_frames (take (length lists - 4) lists)) in
        let kept_is : j.kept ≡ drop (length lists - 4) lists = kept ∙ kept_so in
        let count = ap (λ (l : List (List Frame)). length (all_frames l)) kept_is in
        let ends : first + length (all_frames j.kept) ≡ j.sent + 1 =
        omega (arith, count, four.count, all.count, count-push i.kept e.frames, last, sent, sent_so) in
        keeps (commit_done r).1 p j first (omega (arith, some)) ends (subst (EndOwed (commit_done r).1 p first) (sym kept_is) four)

  -- AN ACKNOWLEDGEMENT: what the gate lets go has come
  pub keeps_ack : (k : IsRecord r) → AreNumbered r p → length p.numbers ≡ length p.boxes → (n : ℕ) → n < r.window.to_commit
      → KeepsFrames (ack_done p.boxes r n).1 (ports_after_ack p r n) i
  keeps_ack k numbered clients n below =
      keeps (ack_done p.boxes r n).1 (ports_after_ack p r n) i (first_kept i) some last
      (owed_acked r p (first_kept i) i.kept end k numbered clients n below)

-- an image that keeps nothing, where no frame was committed and none is owed
pub keeps_none : (r : Record) (p : PortsState) (i : ImageState) → first_uncommitted r ≡ 1 → committed_of r.window r.pending ≡ []
    → i.kept ≡ [] → i.sent ≡ 0 → KeepsFrames r p i
keeps_none r p i first none kept sent = record {
  sent = ap (λ n. n + 1) sent ∙ sym first;
  numbers = let e = ap (λ (l : List (List Frame)). length (all_frames l)) kept in omega arith;
  older = [];
  lists = kept ∙ ap frames_by_epoch (sym none);
  came = tt;
}
