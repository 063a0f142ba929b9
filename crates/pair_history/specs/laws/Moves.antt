-- Laws of what epochs keep. What a client does changes places with it: it is the state behind the moves alone that the moves
-- say (`at-moves`), and what is delivered in between only waits behind (`AllCan-more`, `left-more`).
use Rattle.std.proofs.Common.{◌≡◌, ℕ, zero, suc, ◌≤◌, List, [], ◌∷◌, ◌++◌, length, replicate, refl, sym, ap, ◌∙◌, arith, append_assoc}
use Rattle.guest_rules.specs.Guest.{Guest}
use Rattle.guest_rules.specs.Step.{sent}
use Rattle.frame_ports.specs.Addresses.{targets_of}
use Rattle.pair_history.specs.Entries.{Ran, Arrive}
use Rattle.pair_history.specs.HistoryState.{HistoryState, Waiting, inbox_of, with_arrived, without_number, at, after, Legal}
use Rattle.pair_history.specs.HistoryState.{sent_along}
use Rattle.pair_history.specs.Landings.{DropsAreKnown, DropsNone}
use Rattle.pair_history.specs.Order.{AreGuests}
use Rattle.pair_history.specs.Moves.{Move, Steps, Arrives, entry_of, entries_of, guest_moved, frames_by, guest_along, frames_along}
use Rattle.pair_history.specs.Moves.{left_by}
use Rattle.pair_history.specs.Moves.{left, CanMove, AllCan}
use Rattle.std.proofs.lemmas.List.{append-nil}
use Rattle.frame_ports.specs.laws.Addresses.{targets_of-append}
use Rattle.pair_history.specs.laws.Waiting.{IsFirst-more, frame_numbered-more, shorter}

pub guest_along-append : (g : Guest) (ms ns : List Move) → guest_along g (ms ++ ns) ≡ guest_along (guest_along g ms) ns
guest_along-append g [] ns = refl
guest_along-append g (m ∷ ms) ns = guest_along-append (guest_moved g m) ms ns

pub frames_along-append : (g : Guest) (ms ns : List Move)
    → frames_along g (ms ++ ns) ≡ frames_along g ms ++ frames_along (guest_along g ms) ns
frames_along-append g [] ns = refl
frames_along-append g (m ∷ ms) ns =
    rw (frames_along-append (guest_moved g m) ms ns) (sym (append_assoc (frames_by g m) (frames_along (guest_moved g m) ms) _))

pub left-append : (ws : List Waiting) (ms ns : List Move) → left ws (ms ++ ns) ≡ left (left ws ms) ns
left-append ws [] ns = refl
left-append ws (m ∷ ms) ns = left-append (left_by ws m) ms ns

pub AllCan-append : (ws : List Waiting) (ms ns : List Move) → AllCan ws ms → AllCan (left ws ms) ns → AllCan ws (ms ++ ns)
AllCan-append ws [] ns p q = q
AllCan-append ws (m ∷ ms) ns p q = (p.0, AllCan-append (left_by ws m) ms ns p.1 q)

pub AllCan-front : (ws : List Waiting) (ms ns : List Move) → AllCan ws (ms ++ ns) → AllCan ws ms
AllCan-front ws [] ns p = tt
AllCan-front ws (m ∷ ms) ns p = (p.0, AllCan-front (left_by ws m) ms ns p.1)

pub AllCan-back : (ws : List Waiting) (ms ns : List Move) → AllCan ws (ms ++ ns) → AllCan (left ws ms) ns
AllCan-back ws [] ns p = p
AllCan-back ws (m ∷ ms) ns p = AllCan-back (left_by ws m) ms ns p.1

-- the state behind moves
abbrev pub moved : HistoryState → List Move → HistoryState
moved s ms = record {
  guest = guest_along s.guest ms;
  number = s.number;
  waiting = left s.waiting ms;
  out = s.out ++ targets_of (length s.boxes) (frames_along s.guest ms);
  boxes = s.boxes;
}

one-moved : (s : HistoryState) (m : Move) → CanMove s.waiting m → after s (entry_of m) ≡ moved s (m ∷ [])
one-moved s Steps h = rw append-nil
one-moved s (Arrives n f) h = rw (h.1, append-nil)

pub at-moves : (s : HistoryState) (ms : List Move) → AllCan s.waiting ms → at s (entries_of ms) ≡ moved s ms
at-moves s [] p = rw append-nil
at-moves s (m ∷ ms) p =
    ap (λ t. at t (entries_of ms)) (one-moved s m p.0)
    ∙ at-moves (moved s (m ∷ [])) ms p.1
    ∙ rw (append-nil, targets_of-append, append_assoc)

pub Legal-moves : (s : HistoryState) (ms : List Move) → AllCan s.waiting ms → Legal s (entries_of ms)
Legal-moves s [] p = tt
Legal-moves s (Steps ∷ ms) p = (tt, Legal-moves (after s Ran) ms p.1)
Legal-moves s (Arrives n f ∷ ms) p = (p.0.0, Legal-moves (after s (Arrive n)) ms p.1)

pub DropsAreKnown-moves : (s : HistoryState) (ms : List Move) → AllCan s.waiting ms → DropsAreKnown s (entries_of ms)
DropsAreKnown-moves s [] p = tt
DropsAreKnown-moves s (Steps ∷ ms) p = DropsAreKnown-moves (after s Ran) ms p.1
DropsAreKnown-moves s (Arrives n f ∷ ms) p = DropsAreKnown-moves (after s (Arrive n)) ms p.1

pub DropsNone-moves : (ms : List Move) → DropsNone (entries_of ms)
DropsNone-moves [] = tt
DropsNone-moves (Steps ∷ ms) = DropsNone-moves ms
DropsNone-moves (Arrives n f ∷ ms) = DropsNone-moves ms

pub sent_along-moves : (s : HistoryState) (ms : List Move) → AllCan s.waiting ms → sent_along s (entries_of ms) ≡ frames_along s.guest ms
sent_along-moves s [] p = refl
sent_along-moves s (Steps ∷ ms) p = ap (λ t. sent s.guest ++ t) (sent_along-moves (after s Ran) ms p.1)
sent_along-moves s (Arrives n f ∷ ms) p =
    sent_along-moves (after s (Arrive n)) ms p.1 ∙ ap (λ o. frames_along (with_arrived s.guest o) ms) p.0.1

-- What is delivered meanwhile stands behind.

pub AllCan-more : (ws xs : List Waiting) (ms : List Move) → AllCan ws ms → AllCan (ws ++ xs) ms
AllCan-more ws xs [] h = tt
AllCan-more ws xs (Steps ∷ ms) h = (tt, AllCan-more ws xs ms h.1)
AllCan-more ws xs (Arrives n f ∷ ms) h =
    let behind = frame_numbered-more n f ws xs h.0.1 in
    ((IsFirst-more n ws xs h.0.0, behind.0), rw behind.1 (AllCan-more (without_number n ws) xs ms h.1))

pub left-more : (ws xs : List Waiting) (ms : List Move) → AllCan ws ms → left (ws ++ xs) ms ≡ left ws ms ++ xs
left-more ws xs [] h = refl
left-more ws xs (Steps ∷ ms) h = left-more ws xs ms h.1
left-more ws xs (Arrives n f ∷ ms) h = rw (frame_numbered-more n f ws xs h.0.1).1 (left-more (without_number n ws) xs ms h.1)

-- a client's inbox gets no longer along moves
pub left-shorter : (c : ℕ) (ws : List Waiting) (ms : List Move) → length (inbox_of c (left ws ms)) ≤ length (inbox_of c ws)
left-shorter c ws [] = omega arith
left-shorter c ws (Steps ∷ ms) = left-shorter c ws ms
left-shorter c ws (Arrives n f ∷ ms) = omega (arith, left-shorter c (without_number n ws) ms, shorter c n ws)

-- what epochs keep are the guest's own entries
pub AreGuests-moves : (ms : List Move) → AreGuests (entries_of ms)
AreGuests-moves [] = tt
AreGuests-moves (Steps ∷ ms) = (tt, AreGuests-moves ms)
AreGuests-moves (Arrives n f ∷ ms) = (tt, AreGuests-moves ms)

-- STEPS are moves

pub entries-steps : (n : ℕ) → replicate n Ran ≡ entries_of (replicate n Steps)
entries-steps zero = refl
entries-steps (suc n) = ap (λ t. Ran ∷ t) (entries-steps n)

pub can-steps : (n : ℕ) (ws : List Waiting) → AllCan ws (replicate n Steps)
can-steps zero ws = tt
can-steps (suc n) ws = (tt, can-steps n ws)

pub left-steps : (n : ℕ) (ws : List Waiting) → left ws (replicate n Steps) ≡ ws
left-steps zero ws = refl
left-steps (suc n) ws = left-steps n ws
