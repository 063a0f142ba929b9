use Rattle.hypervisor.proofs.OpeningLaws.{opened}
use Rattle.hypervisor.proofs.boot.shared_book.Goals as goal

pub new-requires-clause-started : goal.new-requires-clause-started
new-requires-clause-started g c = opened c.args.book c.open-book.result _ c.open-book.ensures.book c.requires.started
