-- The count stands behind the head.
use Rattle.std.proofs.Common.{ap, arith, length}
use Rattle.full_text.specs.Full.{Making, Searching}
use Rattle.full_text.proofs.SearchLemmas.{found-made}
use Rattle.full_text.proofs.stage.looked_on.Goals as goal

pub returns-then-is_done-clause-no_further : goal.returns-then-is_done-clause-no_further
returns-then-is_done-clause-no_further c =
    omega (
      arith,
      ap (λ (f : Making). length f.made) (c.finish.ensures.text c.args.machine.now.settled c.look.ensures.fits),
      found-made c.args.machine.now.settled c.look.new.self,
      ap (λ (s : Searching). length s.head) c.look.ensures.rest,
    )
