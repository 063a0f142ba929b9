use Rattle.pair_book.proofs.RunLaws.{runs-settled, runs-prepared}
use Rattle.pair_book.proofs.laws.runners_bring_what_they_have.Goals as goal

pub returns-clause-settled : goal.returns-clause-settled
returns-clause-settled c = runs-settled

pub returns-clause-prepared : goal.returns-clause-prepared
returns-clause-prepared c = λ start seat x packet runs. runs-prepared start seat x runs packet
