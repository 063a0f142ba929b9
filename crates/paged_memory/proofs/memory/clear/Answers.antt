use Rattle.paged_memory.proofs.memory.clear.Goals as goal

pub returns : goal.returns
returns c = c.fill.ensures.after (λ y same. same)
