use Rattle.std.proofs.Common.{◌∙◌, sym, ap, ◌==◌}
use Rattle.checkpoint_stream.proofs.Failing.{kept_mask-true}
use Rattle.checkpoint_stream.proofs.parts.Parts.take_mask.Goals as goal

pub returns-then-mask-eq0-clause-ok : goal.returns-then-mask-eq0-clause-ok
returns-then-mask-eq0-clause-ok c =
    c.fail.ensures ∙ sym (kept_mask-true _ _ _ _ _ (ap (λ n. n == 0) c.if-mask-eq0.true))
