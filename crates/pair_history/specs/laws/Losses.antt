-- Laws of a delivered frame that is lost: what is so of the others, and of what the guest takes in.
use Rattle.std.proofs.Common.{◌≡◌, ◌≢◌, ℕ, List, [], ◌∷◌, refl, sym, ap, ◌∙◌, Some}
use Rattle.pair_history.specs.Entries.{Frame}
use Rattle.pair_history.specs.HistoryState.{Waiting, frame_numbered, without_number}
use Rattle.pair_history.specs.Moves.{Move, Steps, Arrives, left, AllCan}
use Rattle.pair_history.specs.Reached.{AreRising}
use Rattle.pair_history.specs.laws.Waiting.{AreRising-without, found-without, without-swaps, IsFirst-without, gone}

pub AreRising-left : (first end : ℕ) (ws : List Waiting) (ms : List Move) → AreRising first end ws → AreRising first end (left ws ms)
AreRising-left first end ws [] h = h
AreRising-left first end ws (Steps ∷ ms) h = AreRising-left first end ws ms h
AreRising-left first end ws (Arrives n f ∷ ms) h = AreRising-left first end (without_number n ws) ms (AreRising-without n first end ws h)

-- A frame that still waits after moves of the guest can leave before them: they are as they were, and it is missing after them.
abbrev pub LeavesBefore : ℕ → Frame → List Waiting → List Move → Type 0
LeavesBefore n f ws ms =
    (frame_numbered n ws ≡ Some f) × AllCan (without_number n ws) ms × (left (without_number n ws) ms ≡ without_number n (left ws ms))

pub leaves-before : (n : ℕ) (f : Frame) (first end : ℕ) (ws : List Waiting) (ms : List Move) → AreRising first end ws → AllCan ws ms
    → frame_numbered n (left ws ms) ≡ Some f → LeavesBefore n f ws ms
leaves-before n f first end ws [] h can e = (e, tt, refl)
leaves-before n f first end ws (Steps ∷ ms) h can e =
    let more = leaves-before n f first end ws ms h can.1 e in (more.0, (tt, more.1), more.2)
leaves-before n f first end ws (Arrives m g ∷ ms) h can e =
    let more = leaves-before n f first end (without_number m ws) ms (AreRising-without m first end ws h) can.1 e in
    let missing = gone m first end ws h in
    let differ : m ≢ n = λ (same : m ≡ n). absurd (cc (ap (λ k. frame_numbered k (without_number m ws)) same)) in
    let swaps = without-swaps m n ws in (
      sym (found-without n m ws (λ (k : n ≡ m). differ (sym k))) ∙ more.0,
      (
        (IsFirst-without m n ws differ can.0.0, found-without m n ws differ ∙ can.0.1),
        rw swaps more.1,
      ),
      ap (λ vs. left vs ms) swaps ∙ more.2,
    )
