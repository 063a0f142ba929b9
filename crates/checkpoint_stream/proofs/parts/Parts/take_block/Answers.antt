use Rattle.std.proofs.Common.{◌∙◌, sym}
use Rattle.checkpoint_stream.proofs.Failing.{kept_block-true}
use Rattle.checkpoint_stream.proofs.parts.Parts.take_block.Goals as goal

pub returns-then-is_zero-clause-ok : goal.returns-then-is_zero-clause-ok
returns-then-is_zero-clause-ok c =
    c.fail.ensures ∙ sym (kept_block-true _ _ _ _ _ _ (cc))
