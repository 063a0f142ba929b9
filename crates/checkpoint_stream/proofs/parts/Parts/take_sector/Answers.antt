use Rattle.std.proofs.Common.{◌∙◌, sym}
use Rattle.checkpoint_stream.proofs.Failing.{kept_sector-true}
use Rattle.checkpoint_stream.proofs.parts.Parts.take_sector.Goals as goal

pub returns-then-is_zero-clause-ok : goal.returns-then-is_zero-clause-ok
returns-then-is_zero-clause-ok c =
    c.fail.ensures ∙ sym (kept_sector-true _ _ _ _ _
    (rw (sym c.is_full.ensures ∙ c.if-is_full.true, sym c.is_zero.ensures ∙ c.if-is_zero.true)))
