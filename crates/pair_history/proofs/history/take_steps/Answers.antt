use Rattle.std.proofs.Common.{◌∷◌, ◌++◌, [], ◌∙◌, ap, arith}
use Rattle.pair_history.specs.declared.stored.StoredEntry.TheVariants.{Ran}
use Rattle.pair_history.specs.internal.Packed.{unpacked, widths}
use Rattle.pair_history.proofs.LogLaws.{unpacked-ran, widths-push}
use Rattle.pair_history.proofs.history.take_steps.Goals as goal

pub returns-in-Some-Ran-clause-steps : goal.returns-in-Some-Ran-clause-steps
returns-in-Some-Ran-clause-steps c bytes =
    ap (λ es. unpacked es bytes) c.in-Some-Ran.ensures.items
    ∙ ap (λ e. unpacked (c.pop.new.self.items ++ e ∷ []) bytes) c.in-Some-Ran.field-0-is
    ∙ unpacked-ran c.pop.new.self.items c.in-Some-Ran.steps bytes

pub returns-in-Some-Ran-clause-widths : goal.returns-in-Some-Ran-clause-widths
returns-in-Some-Ran-clause-widths c =
    let before = ap widths c.in-Some-Ran.ensures.items in
    let ran = ap (λ e. widths (c.pop.new.self.items ++ e ∷ [])) c.in-Some-Ran.field-0-is in
    let pushed = widths-push c.pop.new.self.items (Ran c.in-Some-Ran.steps) in
    omega (arith, before, ran, pushed)
