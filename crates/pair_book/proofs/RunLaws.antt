-- A runner runs on where its seat looks, and begins to where a backup goes live.
use Rattle.std.proofs.Common.{◌≡◌, ℕ, List, [], ◌∷◌, ◌++◌, length, map, take, drop, refl, sym, ap, ◌∙◌, subst, append_assoc}
use Rattle.std.proofs.Common.{arith, false, Some, Option}
use Rattle.std.proofs.lemmas.List.{take-append-drop}
use Rattle.std.proofs.lemmas.List.Elements.{All-nil, All-cons, All-head, All-tail}
use Rattle.std.specs.Prelude.{All}
use Rattle.failover.specs.declared.mode.Mode.TheVariants.{Stopped}
use Rattle.guest_rules.specs.Guest.{Guest}
use Rattle.pair_history.specs.Entries.{Frame, Entry, DropIn}
use Rattle.pair_history.specs.HistoryState.{HistoryState, at, sent_along, frame_numbered}
use Rattle.pair_history.specs.Failures.{rising, arrived_numbers, go_live_entries}
use Rattle.pair_history.specs.Landings.{landings}
use Rattle.growing_history.specs.Steps.{Step, step, Begins, WentLive}
use Rattle.growing_history.specs.LogState.{LogState, LegalSteps, state_at, sealed_state, under_way, after_step, IsEpoch, IsAlone}
use Rattle.growing_history.specs.SealedTexts.{Makes}
use Rattle.growing_history.specs.Views.{Member}
use Rattle.pair_history.specs.laws.Landings.{landings-unmoved}
use Rattle.growing_history.specs.laws.Logs.{live-rise, marks-rise, state-snoc}
use Rattle.pair_history.specs.laws.Histories.{at-append}
use Rattle.growing_history.specs.laws.Texts.{makes-same}
use Rattle.pair_book.specs.declared.failures.Ack.{Ack}
use Rattle.pair_book.specs.declared.prepared.Prepared.TheVariants as prepared
use Rattle.pair_book.specs.Made.{Reads, carried, IsPrepared}
use Rattle.pair_book.specs.Packets.{PacketState}
use Rattle.pair_book.specs.Settled.{EpochFollows, RunnerOutside, numbers_of, settled_runner, Follows, Runs, epoch_of}
use Rattle.pair_book.specs.Standing.{Stands}
use Rattle.pair_book.specs.laws.EpochWords.{own-epoch}
use Rattle.failover.specs.Modes.{is_filling}

-- IT LOOKS, and has made no step since
module _ (start : HistoryState) (seat : Member) (now : List Step) (x : RunnerOutside) (begins : Begins seat.steps now)
    (legal : LegalSteps start now) (runs : Runs start seat x)
    (handed-law : (state_at start seat.steps).runner ≡ seat.number → (state_at start now).runner ≡ seat.number
    → (state_at start now).handed ≡ (state_at start seat.steps).handed)
    (frames-law : (state_at start seat.steps).runner ≡ seat.number → (state_at start now).runner ≡ seat.number
    → (state_at start now).marked ≡ 0 → (before later : List ℕ) (m : ℕ) (f : Frame)
    → (state_at start seat.steps).handed ≡ before ++ m ∷ later
    → frame_numbered m (sealed_state (state_at start seat.steps)).waiting ≡ Some f
    → frame_numbered m (sealed_state (state_at start now)).waiting ≡ Some f)
    (epoch-law : (state_at start seat.steps).runner ≡ seat.number → (state_at start now).runner ≡ seat.number
    → (state_at start now).marked ≡ 0 → (epoch : List Entry) → IsEpoch (state_at start seat.steps) epoch
    → ((at (sealed_state (state_at start now)) epoch).guest ≡ (at (sealed_state (state_at start seat.steps)) epoch).guest)
    × (sent_along (sealed_state (state_at start now)) epoch ≡ sent_along (sealed_state (state_at start seat.steps)) epoch)) where
  abbrev s : LogState
  s = state_at start seat.steps

  abbrev t : LogState
  t = state_at start now

  abbrev own : List Entry
  own = epoch_of s.handed x.arrivals x.steps

  was : t.runner ≡ seat.number → s.runner ≡ seat.number
  was live = let rise = (live-rise start seat.steps now begins legal).0 in omega (arith, runs.born, rise, live)

  abbrev WaitsIn : LogState → ℕ × Frame → Type 0
  WaitsIn u p = frame_numbered p.0 (sealed_state u).waiting ≡ Some p.1

  held-on : t.runner ≡ seat.number → t.marked ≡ 0 → (before : List ℕ) (ps : List (ℕ × Frame)) → s.handed ≡ before ++ numbers_of ps
      → All (WaitsIn s) ps → All (WaitsIn t) ps
  held-on live none before [] is all = All-nil (WaitsIn t)
  held-on live none before (p ∷ ps) is all =
      All-cons (WaitsIn t) p ps
      (frames-law (was live) live none before (numbers_of ps) p.0 p.1 is (All-head (WaitsIn s) p ps all))
      (held-on live none (before ++ p.0 ∷ []) ps (is ∙ sym (append_assoc before (p.0 ∷ []) (numbers_of ps)))
      (All-tail (WaitsIn s) p ps all))

  pub runs-on : Runs start (record { number = seat.number; steps = now }) x
  runs-on = record {
    born = let rise = (live-rise start seat.steps now begins legal).0 in omega (arith, runs.born, rise);
    came = λ live.
        let some = runs.came (was live) in
        let same = ap (λ (l : List ℕ). length l) (handed-law (was live) live) in
        omega (arith, some, same);
    holds = λ live. runs.holds (was live) ∙ ap (drop x.arrivals) (sym (handed-law (was live) live));
    follows = λ live none.
        let unmarked : s.marked ≡ 0 = let rise = marks-rise start seat.steps now begins in omega (arith, rise, none) in
        let before = runs.follows (was live) unmarked in
        let law = epoch-law (was live) live none in
        let same = sym (handed-law (was live) live) in
        let whole = own-epoch s.handed x.arrivals x.steps s refl in
        let parts : s.handed ≡ take x.arrivals s.handed ++ numbers_of x.held =
        sym (take-append-drop x.arrivals s.handed) ∙ ap (λ l. take x.arrivals s.handed ++ l) (sym (runs.holds (was live))) in
        record {
          held = held-on live none (take x.arrivals s.handed) x.held parts before.held;
          settled = before.settled ∙ sym (law [] (tt, (s.handed, refl))).0;
          guest =
              before.guest
              ∙ sym (law own whole).0
              ∙ ap (λ (l : List ℕ). (at (sealed_state t) (epoch_of l x.arrivals x.steps)).guest) same;
          outbox =
              before.outbox
              ∙ sym (law own whole).1
              ∙ ap (λ (l : List ℕ). sent_along (sealed_state t) (epoch_of l x.arrivals x.steps)) same;
        };
  }

-- WHAT IT BRINGS was settled, and a text of its machine over the guest at which it was settled is what it has to prepare
module _ (start : HistoryState) (seat : Member) (x : RunnerOutside) (runs : Runs start seat x) where
  pub runs-settled : EpochFollows start seat x.arrivals x.steps x.outbox
  runs-settled = record {
    born = runs.born;
    held = runs.came;
    sent = λ live none. (runs.follows live none).outbox;
  }

  pub runs-prepared : (c : PacketState) → Makes (Reads start) c.number c.text (carried c.number x.outbox) x.settled x.guest
      → IsPrepared start seat x.arrivals x.steps x.outbox (prepared.Checkpoint c)
  runs-prepared c makes =
      λ live none.
      let there = runs.follows live none in
      let s = state_at start seat.steps in
      makes-same (Reads start) c.number c.text (carried c.number x.outbox) (carried c.number x.outbox) x.settled
      (sealed_state s).guest x.guest (at (sealed_state s) (epoch_of s.handed x.arrivals x.steps)).guest refl there.settled there.guest makes

-- THE BACKUP GOES LIVE: drops and landings leave the guest
drops-guest : (h : HistoryState) (ns : List ℕ) → (at h (map DropIn ns)).guest ≡ h.guest
drops-guest h [] = refl
drops-guest h (n ∷ ns) = drops-guest (at h (DropIn n ∷ [])) ns

live-guest : (h : HistoryState) (way : List Entry) → (at h (go_live_entries h way)).guest ≡ h.guest
live-guest h way =
    let drops = map DropIn (rising (arrived_numbers way)) in
    ap (λ (g : HistoryState). g.guest) (at-append h drops (landings h.boxes h.out))
    ∙ (landings-unmoved h.boxes h.out (at h drops)).0
    ∙ drops-guest h (rising (arrived_numbers way))

pub runs-live : (start : HistoryState) (steps : List Step) (number : ℕ) → number ≡ (state_at start steps).backup
    → (state_at start steps).mode ≡ Stopped → (image : Guest) (last : Option Ack) (sent first : ℕ) (kept : List (List Frame))
    → Stands start (record { number = number; steps = steps }) image last sent first kept → (runner : ℕ) (seat : Member)
    → seat ≡ record { number = runner; steps = steps ++ step 0 (WentLive runner) ∷ [] } → Runs start seat (settled_runner image [])
runs-live start steps number mine mode image last sent first kept stood runner seat is =
    let s = state_at start steps in
    let u = after_step s (WentLive runner) in
    let now = steps ++ step 0 (WentLive runner) ∷ [] in
    let there : state_at start now ≡ u = state-snoc start steps (step 0 (WentLive runner)) in
    let pair : IsAlone s.mode → ⊥ = subst (λ m. IsAlone m → ⊥) (sym mode) (λ a. a) in
    let filled : is_filling s.mode ≡ false = ap is_filling mode in
    let guest : s.marked ≡ 0 → image ≡ u.history.guest =
    λ none. stood.guest (mine, pair) none filled ∙ sym (live-guest s.history (under_way s)) in
    let follows : s.marked ≡ 0 → Follows u (settled_runner image []) =
    λ none. record {
      held = All-nil (λ (p : ℕ × Frame). frame_numbered p.0 (sealed_state u).waiting ≡ Some p.1);
      settled = guest none;
      guest = guest none;
      outbox = refl;
    } in
    let all : Runs start (record { number = runner; steps = now }) (settled_runner image []) =
    record {
      born = let same = ap (λ (v : LogState). v.runner) there in omega (arith, same);
      came = λ live. omega arith;
      holds = λ live. sym (ap (λ (v : LogState). drop 0 v.handed) there);
      follows = λ live none.
          subst (λ (v : LogState). Follows v (settled_runner image [])) (sym there)
          (follows (let same = ap (λ (v : LogState). v.marked) there in omega (arith, same, none)));
    } in
    subst (λ (m : Member). Runs start m (settled_runner image [])) (sym is) all
