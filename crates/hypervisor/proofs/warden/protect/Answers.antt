use Rattle.std.proofs.Common.{rules, ℕ, ◌++◌, ◌∷◌, [], ap, sym, ◌∙◌}
use Rattle.growing_history.specs.Steps.{Protected, step}
use Rattle.growing_history.specs.Views.{Member}
use Rattle.hypervisor.proofs.FailureWhys.{protect-refused}
use Rattle.hypervisor.proofs.warden.protect.Goals as goal

pub returns-in_err-seat-clause-why : goal.returns-in_err-seat-clause-why
returns-in_err-seat-clause-why g c =
    let why = protect-refused c.args.book.now c.protect.result c.protect.ensures.why in
    search (rules, why)

pub returns-clause-seat : goal.returns-clause-seat
returns-clause-seat g c =
    let e = c.in_ok-seat.ensures in
    let before = c.args.book.now.steps in
    record {
      legal = c.keep_seat.ensures;
      last = (
        before,
        ap (λ (m : Member). m.steps) e.seat
            ∙ e.step
            ∙ ap (λ (n : ℕ). before ++ step 0 (Protected n) ∷ []) (sym e.enrolled ∙ sym (ap (λ (m : Member). m.number) e.seat)),
      );
    }
