use Rattle.book_tests.proofs.members.Runner.submit_none.Goals as goal

pub submit-requires : goal.submit-requires
submit-requires g c = λ live. tt
