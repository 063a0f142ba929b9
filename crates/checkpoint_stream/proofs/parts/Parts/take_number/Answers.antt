use Rattle.std.proofs.Common.{◌≡◌, ◌∙◌, sym, false}
use Rattle.checkpoint_stream.{specs.HeadTable.{passes, row_at}, proofs.Failing.kept_number-false}
use Rattle.checkpoint_stream.proofs.parts.Parts.take_number.Goals as goal

pub returns-else-passes : goal.returns-else-passes
returns-else-passes c =
    let breaks : passes c.args.self.now.shape (row_at c.args.self.now.known).rule c.args.self.now.before c.args.n ≡ false
    = rw (← c.self.view_is, ← c.head_row-row.ensures) (sym c.passes.ensures ∙ c.if-passes.false)
    in c.fail.ensures ∙ sym (kept_number-false _ _ _ _ breaks)
