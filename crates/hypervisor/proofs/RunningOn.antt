-- A runner that runs on does so after a run: what it held arrived, and then its guest made steps. The laws of lower crates come as
-- premises, since functions of theirs promise them.
use Rattle.std.proofs.Common.{◌≡◌, ℕ, zero, suc, ◌+◌, ◌<◌, List, [], ◌∷◌, ◌++◌, length, map, drop, refl, sym, ap, ◌∙◌, subst, arith}
use Rattle.std.proofs.Common.{Some}
use Rattle.std.proofs.lemmas.List.{drop_all, length-drop, length-map}
use Rattle.std.proofs.lemmas.List.Elements.{All-nil}
use Rattle.std.specs.Prelude.{All}
use Rattle.guest_rules.specs.Guest.{Guest}
use Rattle.guest_rules.specs.Runs.{after_steps, sent_in}
use Rattle.pair_history.specs.Entries.{Entry, Frame, Arrive}
use Rattle.pair_history.specs.HistoryState.{HistoryState, at, sent_along, frame_numbered}
use Rattle.pair_history.specs.HistoryState as history
use Rattle.pair_history.specs.Reached.{IsReached}
use Rattle.pair_history.specs.Waits.{AllWait}
use Rattle.growing_history.specs.LogState.{LogState, state_at, history_of, under_way, sealed_state, entries_of}
use Rattle.growing_history.specs.Views.{Member}
use Rattle.pair_history.specs.laws.Histories.{legal-first, legal-second}
use Rattle.pair_book.specs.Settled.{Runs, Follows, epoch_of, numbers_of}
use Rattle.hypervisor.specs.Runners.{RunnerState, outside}
use Rattle.hypervisor.specs.Runs.{HasRun, after_arrivals, frames_of, guest_ready}
use Rattle.hypervisor.proofs.Arriving.{WaitInTurn, wait-in-turn, legal-wait, came-guest, came-sent, longer-guest, longer-sent}

-- a legal history leads from such a state only to such states
abbrev pub ReachedLaw : Type 0
ReachedLaw = (s : HistoryState) (es : List Entry) → IsReached s → history.Legal s es → IsReached (at s es)

-- what holds the frames first has no arrivals and no steps yet
none-yet : {A : Type 0} (x : A) (xs ys : List A) (n m : ℕ) → n ≡ m → (0 < n → ys ≡ []) → ys ≡ x ∷ xs → m ≡ 0
none-yet x xs ys n zero e first is = refl
none-yet x xs ys n (suc m) e first is = let none = first (omega (arith, e)) in absurd (cc (none, is))

module _ (start : HistoryState) (old : RunnerState) (reached : IsReached start) (reached-law : ReachedLaw)
    (lawful : (state_at start old.seat.steps).marked ≡ 0
    → history.Legal start (history_of start old.seat.steps ++ under_way (state_at start old.seat.steps)))
    (stands : (state_at start old.seat.steps).history ≡ at start (history_of start old.seat.steps))
    (first : 0 < old.arrivals + old.steps → old.held ≡ []) (settled : Guest) (was : Runs start old.seat (outside old settled)) where
  abbrev s : LogState
  s = state_at start old.seat.steps

  abbrev h : HistoryState
  h = sealed_state s

  -- how many have arrived, once all that is held has
  abbrev came : ℕ
  came = old.arrivals + length old.held

  handed-count : s.runner ≡ old.seat.number → came ≡ length s.handed
  handed-count live =
      let some = was.came live in
      let rest = ap (λ (l : List ℕ). length l) (was.holds live) in
      let count = length-map old.held (λ (x : ℕ × Frame). x.0) in
      let left = length-drop old.arrivals s.handed in
      omega (arith, some, rest, count, left)

  -- UNLESS A COMMIT IS MARKED, where it is live
  module _ (live : s.runner ≡ old.seat.number) (none : s.marked ≡ 0) where
    before : List Entry
    before = history_of start old.seat.steps

    whole : history.Legal s.history (under_way s)
    whole =
        subst (λ (g : HistoryState). history.Legal g (under_way s)) (sym stands)
        (legal-second start (history_of start old.seat.steps) (under_way s) (lawful none))

    at-history : IsReached s.history
    at-history =
        subst IsReached (sym stands)
        (reached-law start (history_of start old.seat.steps) reached
        (legal-first start (history_of start old.seat.steps) (under_way s) (lawful none)))

    at-sealed : IsReached h
    at-sealed =
        reached-law s.history (entries_of s.sealed) at-history
        (legal-first s.history (entries_of s.sealed) (map Arrive s.handed) whole)

    handed-wait : AllWait s.handed h.waiting
    handed-wait = legal-wait h s.handed (legal-second s.history (entries_of s.sealed) (map Arrive s.handed) whole)

    follows : Follows s (outside old settled)
    follows = was.follows live none

    abbrev Ready : Type 0
    Ready =
        ((at h (epoch_of s.handed came old.steps)).guest ≡ guest_ready old)
        × (sent_along h (epoch_of s.handed came old.steps) ≡ old.machine.outbox)

    nothing-held : old.held ≡ [] → Ready
    nothing-held is =
        let same : came ≡ old.arrivals = let none-there = ap (λ (l : List (ℕ × Frame)). length l) is in omega (arith, none-there) in (
          ap (λ (n : ℕ). (at h (epoch_of s.handed n old.steps)).guest) same
              ∙ sym follows.guest
              ∙ ap (λ (l : List (ℕ × Frame)). after_arrivals old.machine.guest (frames_of l)) (sym is),
          ap (λ (n : ℕ). sent_along h (epoch_of s.handed n old.steps)) same ∙ sym follows.outbox,
        )

    some-held : old.arrivals ≡ 0 → old.steps ≡ 0 → Ready
    some-held no-arrivals no-steps =
        let are : s.handed ≡ numbers_of old.held = sym (was.holds live ∙ ap (λ (n : ℕ). drop n s.handed) no-arrivals) in
        let wait : WaitInTurn old.held h.waiting =
        wait-in-turn 1 h.number h.waiting at-sealed.rising old.held follows.held
        (subst (λ (l : List ℕ). AllWait l h.waiting) are handed-wait) in
        let all : came ≡ length old.held = omega (arith, no-arrivals) in
        let guest : old.machine.guest ≡ h.guest =
        follows.guest ∙ (λ i. (at h (epoch_of s.handed (no-arrivals i) (no-steps i))).guest) in
        let sent : old.machine.outbox ≡ [] =
        follows.outbox ∙ (λ i. sent_along h (epoch_of s.handed (no-arrivals i) (no-steps i))) in (
          (λ i. (at h (epoch_of s.handed (all i) (no-steps i))).guest)
              ∙ came-guest h old.held s.handed are wait
              ∙ ap (λ (g : Guest). after_arrivals g (frames_of old.held)) (sym guest),
          (λ i. sent_along h (epoch_of s.handed (all i) (no-steps i)))
              ∙ came-sent h old.held s.handed are wait
              ∙ sym sent,
        )

    -- once all that was held has arrived
    ready : Ready
    ready = by_held old.held refl
      where
        by_held : (ps : List (ℕ × Frame)) → old.held ≡ ps → Ready
        by_held [] is = nothing-held is
        by_held (p ∷ ps) is =
            let e = none-yet p ps old.held (old.arrivals + old.steps) (old.arrivals + old.steps) refl first is in
            some-held (omega (arith, e)) (omega (arith, e))

  -- AFTER THE RUN
  module _ (made : ℕ) (new : RunnerState) (run : HasRun made old new) where
    then-follows : s.runner ≡ old.seat.number → s.marked ≡ 0 → Follows s (outside new settled)
    then-follows live none =
        let ready-now = ready live none in
        let f = follows live none in
        let epoch-is : epoch_of s.handed new.arrivals new.steps ≡ epoch_of s.handed came (old.steps + made) =
        λ i. epoch_of s.handed (run.arrivals i) (run.steps i) in
        record {
          held =
              subst (λ (ps : List (ℕ × Frame)). All (λ (p : ℕ × Frame). frame_numbered p.0 h.waiting ≡ Some p.1) ps) (sym run.held)
              (All-nil (λ (p : ℕ × Frame). frame_numbered p.0 h.waiting ≡ Some p.1));
          settled = f.settled;
          guest =
              run.guest
              ∙ ap (after_steps made) (sym ready-now.0)
              ∙ sym (longer-guest h s.handed came old.steps made)
              ∙ sym (λ i. (at h (epoch-is i)).guest);
          outbox =
              run.outbox
              ∙ (λ i. sym ready-now.1 i ++ sent_in made (sym ready-now.0 i))
              ∙ sym (longer-sent h s.handed came old.steps made)
              ∙ sym (λ i. sent_along h (epoch-is i));
        }

    with-seat : Runs start old.seat (outside new settled)
    with-seat = record {
      born = was.born;
      came = λ live. let count = handed-count live in omega (arith, run.arrivals, count);
      holds = λ live.
          ap numbers_of run.held
          ∙ sym (drop_all new.arrivals s.handed (let count = handed-count live in omega (arith, run.arrivals, count)));
      follows = then-follows;
    }

    pub runs-after : Runs start new.seat (outside new settled)
    runs-after = subst (λ (m : Member). Runs start m (outside new settled)) (sym run.seat) with-seat
