-- What is handed out arrives, and then the guest makes its steps: as the history says it, and as a machine does it.
use Rattle.std.proofs.Common.{◌≡◌, ◌≢◌, ℕ, zero, suc, ◌+◌, List, [], ◌∷◌, ◌++◌, length, map, take, replicate, refl, sym, ap, ◌∙◌}
use Rattle.std.proofs.Common.{subst, append_assoc, Option, Some}
use Rattle.std.proofs.lemmas.List.{append-nil, length-map, replicate-append-replicate}
use Rattle.std.proofs.lemmas.List.Elements.{All-head, All-tail}
use Rattle.std.proofs.Math.Seq.{take-length}
use Rattle.std.specs.Prelude.{All}
use Rattle.guest_rules.specs.Runs.{after_steps, sent_in}
use Rattle.guest_rules.specs.Step.{sent}
use Rattle.pair_history.specs.Entries.{Entry, Frame, Arrive, Ran}
use Rattle.pair_history.specs.HistoryState.{HistoryState, Waiting, frame_numbered, without_number, with_arrived, at, after}
use Rattle.pair_history.specs.HistoryState.{sent_along, sent_by, Legal}
use Rattle.pair_history.specs.Reached.{AreRising}
use Rattle.pair_history.specs.Waits.{without_numbers, AllWait}
use Rattle.pair_history.specs.laws.Histories.{at-append}
use Rattle.pair_history.specs.laws.Waiting.{AreRising-without, found-without, first-waits, gone}
use Rattle.pair_history.specs.laws.Waits.{without_numbers-append}
use Rattle.pair_book.specs.Settled.{epoch_of, numbers_of}
use Rattle.hypervisor.specs.Runs.{after_arrivals, frames_of}

-- that frame waits under that number
abbrev WaitsAs : List Waiting → ℕ × Frame → Type 0
WaitsAs ws p = frame_numbered p.0 ws ≡ Some p.1

-- each of these does, once those before it have left
abbrev pub WaitInTurn : List (ℕ × Frame) → List Waiting → Type 0
WaitInTurn [] ws = Unit {0}
WaitInTurn (p ∷ ps) ws = WaitsAs ws p × WaitInTurn ps (without_number p.0 ws)

module _ (first end : ℕ) where
  -- what waits once others have left waited before, as the same frame: no two have one number
  waited : (m : ℕ) (f : Frame) (ns : List ℕ) (ws : List Waiting) → AreRising first end ws
      → frame_numbered m (without_numbers ns ws) ≡ Some f → frame_numbered m ws ≡ Some f
  waited m f [] ws r e = e
  waited m f (n ∷ ns) ws r e =
      let now = without_number n ws in
      let here = waited m f ns now (AreRising-without n first end ws r) e in
      let missing = gone n first end ws r in
      let differ : m ≢ n = λ (same : m ≡ n). absurd (cc (missing, here, ap (λ (k : ℕ). frame_numbered k now) same)) in
      sym (found-without m n ws differ) ∙ here

  module _ (ws : List Waiting) (rises : AreRising first end ws) where
    wait-behind : (ns : List ℕ) (ps : List (ℕ × Frame)) → All (WaitsAs ws) ps → AllWait (numbers_of ps) (without_numbers ns ws)
        → WaitInTurn ps (without_numbers ns ws)
    wait-behind ns [] all w = tt
    wait-behind ns (p ∷ ps) all w =
        let f : Frame = w.0.0 in
        let before = waited p.0 f ns ws rises w.0.1 in
        let one = without_numbers-append ns (p.0 ∷ []) ws in (
          w.0.1 ∙ sym before ∙ All-head (WaitsAs ws) p ps all,
          subst (WaitInTurn ps) one
              (wait-behind (ns ++ p.0 ∷ []) ps (All-tail (WaitsAs ws) p ps all) (subst (AllWait (numbers_of ps)) (sym one) w.1)),
        )

    -- frames that wait, whose numbers wait one after another, are those that wait one after another
    pub wait-in-turn : (ps : List (ℕ × Frame)) → All (WaitsAs ws) ps → AllWait (numbers_of ps) ws → WaitInTurn ps ws
    wait-in-turn ps all w = wait-behind [] ps all w

-- where arrivals are legal, their numbers do
pub legal-wait : (h : HistoryState) (ns : List ℕ) → Legal h (map Arrive ns) → AllWait ns h.waiting
legal-wait h [] l = tt
legal-wait h (n ∷ ns) l = (first-waits n h.waiting l.0, legal-wait (after h (Arrive n)) ns l.1)

arrivals-guest : (h : HistoryState) (ps : List (ℕ × Frame)) → WaitInTurn ps h.waiting
    → (at h (map Arrive (numbers_of ps))).guest ≡ after_arrivals h.guest (frames_of ps)
arrivals-guest h [] w = refl
arrivals-guest h (p ∷ ps) w =
    arrivals-guest (after h (Arrive p.0)) ps w.1
    ∙ ap (λ (f : Option Frame). after_arrivals (with_arrived h.guest f) (frames_of ps)) w.0

arrivals-send : (h : HistoryState) (ns : List ℕ) → sent_along h (map Arrive ns) ≡ []
arrivals-send h [] = refl
arrivals-send h (n ∷ ns) = arrivals-send (after h (Arrive n)) ns

steps-guest : (n : ℕ) (h : HistoryState) → (at h (replicate n Ran)).guest ≡ after_steps n h.guest
unfolding after_steps
steps-guest zero h = refl
steps-guest (suc n) h = steps-guest n (after h Ran)

steps-send : (n : ℕ) (h : HistoryState) → sent_along h (replicate n Ran) ≡ sent_in n h.guest
unfolding sent_in
steps-send zero h = refl
steps-send (suc n) h = ap (λ l. sent h.guest ++ l) (steps-send n (after h Ran))

send-append : (h : HistoryState) (es fs : List Entry) → sent_along h (es ++ fs) ≡ sent_along h es ++ sent_along (at h es) fs
send-append h [] fs = refl
send-append h (e ∷ es) fs =
    ap (λ l. sent_by h e ++ l) (send-append (after h e) es fs)
    ∙ sym (append_assoc (sent_by h e) (sent_along (after h e) es) (sent_along (at (after h e) es) fs))

-- ALL THAT IS HANDED OUT arrives first
module _ (h : HistoryState) (ps : List (ℕ × Frame)) (handed : List ℕ) (are : handed ≡ numbers_of ps) (wait : WaitInTurn ps h.waiting) where
  all-came : epoch_of handed (length ps) 0 ≡ map Arrive (numbers_of ps)
  all-came =
      append-nil (map Arrive (take (length ps) handed))
      ∙ ap (λ l. map Arrive (take (length ps) l)) are
      ∙ ap (λ k. map Arrive (take k (numbers_of ps))) (sym (length-map ps (λ (x : ℕ × Frame). x.0)))
      ∙ ap (map Arrive) (take-length (numbers_of ps))

  pub came-guest : (at h (epoch_of handed (length ps) 0)).guest ≡ after_arrivals h.guest (frames_of ps)
  came-guest = ap (λ es. (at h es).guest) all-came ∙ arrivals-guest h ps wait

  pub came-sent : sent_along h (epoch_of handed (length ps) 0) ≡ []
  came-sent = ap (sent_along h) all-came ∙ arrivals-send h (numbers_of ps)

-- THE STEPS come behind an epoch
module _ (h : HistoryState) (handed : List ℕ) (arrivals steps made : ℕ) where
  abbrev epoch : List Entry
  epoch = epoch_of handed arrivals steps

  longer : epoch_of handed arrivals (steps + made) ≡ epoch ++ replicate made Ran
  longer =
      ap (λ l. map Arrive (take arrivals handed) ++ l) (sym (replicate-append-replicate steps made Ran))
      ∙ sym (append_assoc (map Arrive (take arrivals handed)) (replicate steps Ran) (replicate made Ran))

  pub longer-guest : (at h (epoch_of handed arrivals (steps + made))).guest ≡ after_steps made (at h epoch).guest
  longer-guest =
      ap (λ es. (at h es).guest) longer
      ∙ ap (λ (g : HistoryState). g.guest) (at-append h epoch (replicate made Ran))
      ∙ steps-guest made (at h epoch)

  pub longer-sent : sent_along h (epoch_of handed arrivals (steps + made)) ≡ sent_along h epoch ++ sent_in made (at h epoch).guest
  longer-sent =
      ap (sent_along h) longer
      ∙ send-append h epoch (replicate made Ran)
      ∙ ap (λ l. sent_along h epoch ++ l) (steps-send made (at h epoch))
