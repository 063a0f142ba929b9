use Rattle.book_tests.proofs.hosts.host_of.Goals as goal

pub invariant_of-runner : goal.invariant_of-runner
invariant_of-runner g c = rw c.into_inner-clock.ensures (c.requires.like, c.requires.runs.0, c.requires.runs.1)

pub invariant_of-backup : goal.invariant_of-backup
invariant_of-backup g c = rw c.into_inner-clock.ensures (c.requires.frames, λ live. c.requires.keeps)
