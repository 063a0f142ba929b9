use Rattle.std.proofs.Common.{sym, subst}
use Rattle.checkpoint_stream.{specs.Sound.IsSound, proofs.Soundness.fed-sound}
use Rattle.checkpoint_stream.proofs.reader.Reader.feed.Goals as goal

pub invariant_of-self-2 : goal.invariant_of-self-2
invariant_of-self-2 c = subst IsSound (sym c.in_ok-count.ensures.read) (fed-sound _ c.args.piece.now c.self.invariant)
