use Rattle.guest_machine.proofs.FlagLemmas.{keeps_equal}
use Rattle.guest_machine.proofs.lending.serve.Goals as goal

pub invariant_of-lent : goal.invariant_of-lent
invariant_of-lent g c = record { kept = keeps_equal _ _ c.requires.flags }
