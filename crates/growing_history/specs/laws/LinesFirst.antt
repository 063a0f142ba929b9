-- What clients and their lines do comes before what is under way.
use Rattle.std.proofs.Common.{◌≡◌, ◌≢◌, ℕ, List, [], ◌∷◌, refl, ap, ◌∙◌}
use Rattle.std.specs.Prelude.{Some}
use Rattle.pair_history.specs.Entries.{Frame, Entry, Ran, Arrive, Delivered, DropIn, Land, DropOut}
use Rattle.pair_history.specs.HistoryState.{HistoryState, frame_numbered, at}
use Rattle.pair_history.specs.HistoryState as history
use Rattle.pair_history.specs.Order.{AreGuests, NoneTakes, IsReady}
use Rattle.pair_history.specs.laws.Waiting.{frame_numbered-more, found-without}
use Rattle.growing_history.specs.LogState.{IsOwn, AreOwn, IsKnown, AreKnown}

-- that what is ready can go before what the guest does
abbrev pub GoesFirst : Type 0
GoesFirst = (s : HistoryState) (es : List Entry) (e : Entry) → AreGuests es → history.Legal s es → IsReady s es e
    → history.Legal (history.after s e) es × (at (history.after s e) es ≡ history.after (at s es) e)

-- Such entries don't move the guest.

entry-guest : (by : ℕ) (e : Entry) (h : HistoryState) → IsOwn by e → (history.after h e).guest ≡ h.guest
entry-guest by Ran h o = absurd o
entry-guest by (Arrive n) h o = absurd o
entry-guest by other h o = refl

pub entries-guest : (by : ℕ) (es : List Entry) (h : HistoryState) → AreOwn by es → (at h es).guest ≡ h.guest
entries-guest by [] h o = refl
entries-guest by (e ∷ es) h o = entries-guest by es (history.after h e) o.1 ∙ entry-guest by e h o.0

-- They can go before what the guest does that takes in nothing but what is under way, and the state after both is the same.
module _ (way target : List Entry) (takes : (n : ℕ) → NoneTakes n way → NoneTakes n target) where
  ready : (by : ℕ) (e : Entry) (h : HistoryState) → IsOwn by e → IsKnown way h by e → history.Allows h e → IsReady h target e
  ready by Ran h o k a = absurd o
  ready by (Arrive n) h o k a = absurd o
  ready by (DropIn n) h o k a = (a.0, a.1, takes n k)
  ready by (Land c) h o k a = a.1
  ready by (DropOut c place) h o k a = a.1
  ready by other h o k a = tt

  pub lines-first : GoesFirst → (by : ℕ) (es : List Entry) (h : HistoryState) → AreGuests target → AreOwn by es → AreKnown way h by es
      → history.Legal h es → history.Legal h target → at (at h es) target ≡ at (at h target) es
  lines-first go by [] h g o k l t = refl
  lines-first go by (e ∷ es) h g o k l t =
      let moves = go h target e g t (ready by e h o.0 k.0 l.0) in
      lines-first go by es (history.after h e) g o.1 k.1 l.1 moves.0 ∙ ap (λ (x : HistoryState). at x es) moves.1

  -- so the guest after it is the one that it makes
  pub lines-guest : GoesFirst → (by : ℕ) (es : List Entry) (h : HistoryState) → AreGuests target → AreOwn by es → AreKnown way h by es
      → history.Legal h es → history.Legal h target → (at (at h es) target).guest ≡ (at h target).guest
  lines-guest go by es h g o k l t =
      ap (λ (x : HistoryState). x.guest) (lines-first go by es h g o k l t) ∙ entries-guest by es (at h target) o

-- A frame stays where it waits, if no drop that is known can be of it.
module _ (way : List Entry) (n : ℕ) (f : Frame) (apart : (m : ℕ) → NoneTakes m way → n ≢ m) where
  one-stays : (by : ℕ) (e : Entry) (h t : HistoryState) → IsOwn by e → IsKnown way h by e → frame_numbered n t.waiting ≡ Some f
      → frame_numbered n (history.after t e).waiting ≡ Some f
  one-stays by Ran h t o k is = is
  one-stays by (Arrive m) h t o k is = absurd o
  one-stays by (Delivered c x m) h t o k is =
      (frame_numbered-more n f t.waiting (record { number = m; client = c; frame = x } ∷ []) is).0
  one-stays by (DropIn m) h t o k is = found-without n m t.waiting (apart m k) ∙ is
  one-stays by other h t o k is = is

  pub frame-stays : (by : ℕ) (es : List Entry) (h t : HistoryState) → AreOwn by es → AreKnown way h by es
      → frame_numbered n t.waiting ≡ Some f → frame_numbered n (at t es).waiting ≡ Some f
  frame-stays by [] h t o k is = is
  frame-stays by (e ∷ es) h t o k is =
      frame-stays by es (history.after h e) (history.after t e) o.1 k.1 (one-stays by e h t o.0 k.0 is)
