use Rattle.hypervisor.proofs.boot.share.Goals as goal

pub shared_book-requires-clause-started : goal.shared_book-requires-clause-started
shared_book-requires-clause-started g c = (c.args.clients, c.client_seats-seats.ensures.started)
