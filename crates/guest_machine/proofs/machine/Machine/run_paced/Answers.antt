use Rattle.std.proofs.Common.{◌<◌, ◌≤◌, ℕ, List, length, refl, subst, sym, inl, inr, arith}
use Rattle.std.proofs.lemmas.Bool.{cases_eq}
use Rattle.arrayvec.specs.ArrayVec.{ArrayVec}
use Rattle.guest_rules.specs.Guest.{State}
use Rattle.guest_machine.proofs.FlagLemmas.{keeps_same, keeps_on}
use Rattle.guest_machine.proofs.PaceLemmas.{run_then_run, not_asked, held, let_more}
use Rattle.guest_rules.specs.laws.Runs.{IsRun, no_run}
use Rattle.guest_machine.proofs.machine.Machine.run_paced.Goals as goal

pub loop-made-init : goal.loop-made-init
loop-made-init g c = record {
  most = omega arith;
  run = no_run _;
  flags = keeps_same _;
  unchanged = λ none. refl;
  asked = not_asked _ _ _ _ _;
}

pub returns-then-not-go_on-clause-held : goal.returns-then-not-go_on-clause-held
returns-then-not-go_on-clause-held g c = λ few room.
    let Room : List (ArrayVec ℕ) → Type 0 = λ o. length o ≤ 192 in
    held _ _ _ _ _ _ _ _ c.loop-made.invariant.asked c.loop-made-test.true
    (subst Room c.outbox.ensures.value c.if-outbox-le-STEPPING_FRAMES.true) (c.if-not-go_on.ensures)

pub loop-made-preserved : goal.loop-made-preserved
loop-made-preserved g c =
    let n : ℕ = c.run_while-made.result in
    let ran = c.run_while-made.ensures in
    let now : State = c.loop-made.self in
    let then : State = c.run_while-made.new.self in
    let Room : List (ArrayVec ℕ) → Type 0 = λ o. length o ≤ 192 in
    let room : length now.outbox ≤ 192 = subst Room c.outbox.ensures.value c.if-outbox-le-STEPPING_FRAMES.true in
    let Outbox : State → Type 0 = λ s. length s.outbox ≤ 192 in
    let positive : 0 < g.P.Pace.STRETCH = g.met.P.Pace.some in
    let some : 0 < n =
    elim (cases_eq n 0) [
      | inl none ↦
          let room' : length then.outbox ≤ 192 = subst Outbox (sym (ran.unchanged none)) room in
          absurd (omega (arith, none, positive, room', c.STRETCH.ensures, c.min.ensures, c.loop-made-test.true, ran.stopped))
      | inr more ↦ omega (arith, more)
    ]
    in
    let run : IsRun n now then =
    record { guest = ran.guest; outbox = ran.outbox; dirty = ran.dirty; settled = ran.settled; room = ran.room }
    in
    record {
      most = omega (arith, ran.most, c.min.ensures, c.loop-made-test.true);
      run = run_then_run _ _ _ _ _ c.loop-made.invariant.run run;
      flags = keeps_on _ _ _ c.loop-made.invariant.flags ran.flags;
      unchanged = λ none. absurd (omega (arith, some, none));
      asked =
          let_more _ _ _ _ _ _ _ _ _ _ c.loop-made.invariant.asked c.loop-made-test.true room c.if-not-go_on.ensures some
          (omega (arith, ran.most, c.min.ensures, c.STRETCH.ensures))
          (λ few' room'. elim (cases_eq n g.P.Pace.STRETCH) [
            | inl whole ↦ whole
            | inr other ↦
                let short : n < c.min.result = omega (arith, few', other, ran.most, c.min.ensures, c.STRETCH.ensures) in
                absurd (omega (arith, ran.stopped short, room'))
          ]);
    }
