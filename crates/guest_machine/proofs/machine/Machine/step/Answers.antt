use Rattle.std.proofs.Common.{◌≡◌, ℕ, ◌<◌, ◌++◌, List, length, arith, ap, subst, ◌∙◌, refl}
use Rattle.std.proofs.lemmas.List.{append-nil}
use Rattle.arrayvec.specs.ArrayVec.{ArrayVec}
use Rattle.guest_rules.specs.Guest.{Guest}
use Rattle.guest_rules.specs.Runs.{after_steps, sent_in, marked_in, HaveRoom}
use Rattle.guest_rules.specs.laws.Runs.{none_sent, one_step, sent_in_one, marked_in_one, room_for_one}
use Rattle.guest_machine.proofs.machine.Machine.step.Goals as goal

same_outbox : (g : Guest) {n : ℕ} {o o' : List (ArrayVec ℕ)} → n ≡ 0 → o' ≡ o ++ sent_in n g → o' ≡ o
same_outbox g {o = o} none is =
    is ∙ ap (λ (n : ℕ). o ++ sent_in n g) none ∙ ap (λ (x : List (ArrayVec ℕ)). o ++ x) (none_sent g) ∙ append-nil o

pub returns-then-run-eq1-clause-guest : goal.returns-then-run-eq1-clause-guest
returns-then-run-eq1-clause-guest c =
    let g = c.args.self.now.guest in
    c.run.ensures.guest ∙ ap (λ (n : ℕ). after_steps n g) c.if-run-eq1.true ∙ one_step g

pub returns-then-run-eq1-clause-outbox : goal.returns-then-run-eq1-clause-outbox
returns-then-run-eq1-clause-outbox c =
    let g = c.args.self.now.guest in
    let o = c.args.self.now.outbox in
    c.run.ensures.outbox ∙ ap (λ (n : ℕ). o ++ sent_in n g) c.if-run-eq1.true
    ∙ ap (λ (x : List (ArrayVec ℕ)). o ++ x) (sent_in_one g)

pub returns-then-run-eq1-clause-dirty : goal.returns-then-run-eq1-clause-dirty
returns-then-run-eq1-clause-dirty c =
    let g = c.args.self.now.guest in
    let d = c.args.self.now.dirty in
    c.run.ensures.dirty ∙ ap (λ (n : ℕ). marked_in n g d) c.if-run-eq1.true ∙ marked_in_one g d

pub returns-then-run-eq1-clause-refused : goal.returns-then-run-eq1-clause-refused
returns-then-run-eq1-clause-refused c =
    let g = c.args.self.now.guest in
    let o = c.args.self.now.outbox in
    let Room : ℕ → Type 0 = λ n. HaveRoom n g o in
    let few = room_for_one g o (subst Room c.if-run-eq1.true c.run.ensures.room) in
    ((λ e. cc), λ many. absurd (omega (arith, few, many)))

pub returns-else-run-eq1-clause-refused : goal.returns-else-run-eq1-clause-refused
returns-else-run-eq1-clause-refused c =
    let g = c.args.self.now.guest in
    let none : c.run.result ≡ 0 = omega arith in
    let Many : List (ArrayVec ℕ) → Type 0 = λ o. 192 < length o in
    let same = same_outbox g none c.run.ensures.outbox in
    ((λ e. subst Many same (c.run.ensures.cut_needed (omega arith))), λ many. refl)

pub returns-else-run-eq1-clause-err : goal.returns-else-run-eq1-clause-err
returns-else-run-eq1-clause-err c = (refl, c.run.ensures.unchanged (omega arith))
