use Rattle.std.proofs.Common.{sym, ◌∙◌}
use Rattle.checkpoint_stream.proofs.Canonical.{canonical}
use Rattle.checkpoint_stream.specs.laws.Feeding.{whole-place}
use Rattle.checkpoint_stream.proofs.reader.Reader.next.Goals as goal

pub take_checkpoint-requires-clause-canonical : goal.take_checkpoint-requires-clause-canonical
take_checkpoint-requires-clause-canonical c =
    (canonical c.self.inside.parts c.self.invariant (whole-place _ (sym c.is_whole.ensures ∙ c.if-not-is_whole.false))).1
