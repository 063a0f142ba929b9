use Rattle.script_player.proofs.answers.answer.Goals as goal

pub returns-in-Order : goal.returns-in-Order
returns-in-Order c = λ no_memory. rw c.in-Order.is (c.obey.ensures no_memory)
