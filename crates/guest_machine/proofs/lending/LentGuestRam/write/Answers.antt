use Rattle.guest_machine.proofs.FlagLemmas.{keeps_on, keeps_written}
use Rattle.guest_machine.proofs.lending.LentGuestRam.write.Goals as goal

pub invariant_of-self : goal.invariant_of-self
invariant_of-self g c = record {
  kept =
      keeps_on _ _ _ c.args.self.now.kept
      (keeps_written _ _ c.args.place _ _ c.size-size.ensures.rules c.requires c.write.ensures.value);
}
