-- What each loss of the line keeps of the tie.
use Rattle.std.proofs.Common.{◌≡◌, ◌≢◌, ℕ, ◌-◌, ◌<◌, ◌≤◌, List, [], ◌∷◌, ◌++◌, length, remove, refl, sym, ap, ◌∙◌, subst, arith}
use Rattle.std.proofs.{Common.{true, false, cond, Some, None, Bool}, lemmas.{Bool.lt-ltb, List.length-set}}
use Rattle.std.specs.Prelude.{slice_get, nat_lt}
use Rattle.frame_ports.specs.{Lands.{list_of}, Ports.{PortsState}, Limits.{box_frames}}
use Rattle.pair_history.specs.Entries.{Frame, DropIn, DropOut}
use Rattle.pair_history.specs.HistoryState.{HistoryState, Waiting, frame_numbered, without_number}
use Rattle.pair_history.specs.Order.{NoneTakes}
use Rattle.pair_history.specs.Moves.{Move, Steps, Arrives, entries_of, AllCan}
use Rattle.pair_history.specs.Reached.{AreRising}
use Rattle.pair_history.specs.laws.Waiting.{StandsAt, Leaves, leaves-at, gone, found-without, AreRising-without}
use Rattle.pair_history.specs.laws.Losses.{AreRising-left, LeavesBefore, leaves-before}
use Rattle.pair_record.specs.Journal.{kept_entries}
use Rattle.pair_record.specs.Protocol.{Record, shown_at, loss_done}
use Rattle.pair_record.specs.Record.{ports_after_lose_in, ports_after_lose_out, ports_if_lost}
use Rattle.pair_record.specs.Accords.{Accords}
use Rattle.pair_record.specs.Accords.{kept_now, left_now}
use Rattle.pair_record.specs.laws.Accords.{kept_is}
use Rattle.pair_record.specs.laws.Clients.{lose_in_accords, lose_out_accords}
pub use Rattle.pair_record.specs.laws.Tables.{lost_waiting, lost_landed, lost_none}
use Rattle.growing_history.specs.Steps.{Step, step, Added}
use Rattle.growing_history.specs.LogState.{line_seat, state_at, after_step, under_way, AreOwn, AreKnown}
use Rattle.pair_book.specs.internal.{Tie.IsTied}
use Rattle.pair_book.proofs.{Ties.{added-tied, tied-as, way-is, tied-guests, tied-still}, Waits.lost-waiting}

-- the ports where a frame was there, and where none was
pub ports_there : (is_there : Bool) (q after_step p : PortsState) → is_there ≡ true → q ≡ ports_if_lost is_there after_step p → q ≡ after_step
ports_there is_there q after_step p e is = is ∙ ap (λ t. ports_if_lost t after_step p) e

pub ports_else : (is_there : Bool) (q after_step p : PortsState) → is_there ≡ false → q ≡ ports_if_lost is_there after_step p → q ≡ p
ports_else is_there q after_step p e is = is ∙ ap (λ t. ports_if_lost t after_step p) e

-- moves that can be made where the frame of that number doesn't wait don't take it in
none-takes : (n first end : ℕ) (ws : List Waiting) (ms : List Move) → AreRising first end ws → AllCan ws ms → frame_numbered n ws ≡ None
    → NoneTakes n (entries_of ms)
none-takes n first end ws [] h can e = tt
none-takes n first end ws (Steps ∷ ms) h can e = none-takes n first end ws ms h can.1 e
none-takes n first end ws (Arrives m g ∷ ms) h can e =
    let differ : m ≢ n = λ (same : m ≡ n). absurd (cc (can.0.1, ap (λ k. frame_numbered k ws) same, e)) in (
      differ,
      none-takes n first end (without_number m ws) ms (AreRising-without m first end ws h) can.1
          (found-without n m ws (λ (k : n ≡ m). differ (sym k)) ∙ e),
    )

-- what waits in an inbox is taken in by nothing that is under way
pub taken-by-none : (start : HistoryState) (r : Record) (p : PortsState) (a : Accords start r p) (c place n : ℕ) (f : Frame) → 1 ≤ c
    → c ≤ length p.boxes → slice_get (list_of p.inboxes c) place ≡ Some (n, f) → NoneTakes n (kept_entries r.journal)
taken-by-none start r p a c place n f low high there =
    let s = shown_at start r in
    let ms = kept_now start r p a in
    let ws = left_now start r p a in
    let rising = AreRising-left 1 p.next s.waiting ms a.clients.rising in
    let stands : StandsAt c place n f ws = ap (λ t. slice_get t place) (sym (a.clients.inboxes c low high)) ∙ there in
    let leaves : Leaves c place n f ws = leaves-at c place n f 1 p.next ws rising stands in
    let before : LeavesBefore n f s.waiting ms = leaves-before n f 1 p.next s.waiting ms a.clients.rising a.journal.can leaves.0 in
    subst (NoneTakes n) (sym (kept_is start r p a))
    (none-takes n 1 p.next (without_number n s.waiting) ms (AreRising-without n 1 p.next s.waiting a.clients.rising) before.1
    (gone n 1 p.next s.waiting a.clients.rising))

module _ {start : HistoryState} {steps : List Step} {r now : Record} {p q : PortsState} (t : IsTied start steps r p) (c place : ℕ)
    (low : 1 ≤ c) (high : c ≤ length p.boxes) where
  -- LOSEIN
  module _ (n : ℕ) (f : Frame) (there : slice_get (list_of p.inboxes c) place ≡ Some (n, f)) (is : now ≡ (loss_done r (DropIn n)).1)
      (ports : q ≡ ports_after_lose_in p c place) where
    lost-in-known : (state_at start steps).marked ≡ 0
        → AreKnown (under_way (state_at start steps)) (state_at start steps).history line_seat (DropIn n ∷ [])
    lost-in-known none =
        (subst (NoneTakes n) (way-is start steps r p t) (taken-by-none start r p (t.accords none) c place n f low high there), tt)

    pub lost-in-tied : IsTied start (steps ++ step line_seat (Added (DropIn n ∷ [])) ∷ []) now q
    lost-in-tied =
        tied-as is ports
        (added-tied start steps r p (ports_after_lose_in p c place) t line_seat (DropIn n ∷ []) (refl, tt) lost-in-known refl
        (lost-waiting (state_at start steps) p t.waits (tied-guests start steps r p t) c low high place n f there)
        (λ a. lose_in_accords start r p a c low high place n f there))

  -- LOSEOUT
  module _ (there : place < length (list_of p.boxes c)) (few : length (list_of p.boxes c) ≤ box_frames)
      (is : now ≡ (loss_done r (DropOut c place)).1) (ports : q ≡ ports_after_lose_out p c place) where
    pub lost-out-tied : IsTied start (steps ++ step line_seat (Added (DropOut c place ∷ [])) ∷ []) now q
    lost-out-tied =
        let within : nat_lt place box_frames ≡ true = lt-ltb place box_frames (omega (arith, there, few)) in
        let own : AreOwn line_seat (DropOut c place ∷ []) = (ap (λ (b : Bool). cond b line_seat 0) (sym within), tt) in
        let boxes = length-set p.boxes (c - 1) (remove (list_of p.boxes c) place) in
        let q' = ports_after_lose_out p c place in
        tied-as is ports
        (added-tied start steps r p q' t line_seat (DropOut c place ∷ []) own (λ none. (λ (e : line_seat ≡ 0). absurd (cc e), tt)) boxes
        (tied-still start steps r p q' t (Added (DropOut c place ∷ [])) (tt, tt) refl refl boxes)
        (λ a. lose_out_accords start r p a c low high place there))
