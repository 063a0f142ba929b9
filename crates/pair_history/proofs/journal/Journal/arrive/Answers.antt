use Rattle.std.proofs.{Common.{rules, ◌≡◌, ◌++◌, ◌∷◌, [], arith}, lemmas.List.length-append}
use Rattle.pair_history.specs.Entries.{Arrive}
use Rattle.pair_history.specs.internal.Arrivals.{epoch_entries}
use Rattle.pair_history.proofs.JournalLaws.{epoch-arrives}
use Rattle.pair_history.specs.laws.Joined.{length-all}
use Rattle.pair_history.proofs.journal.Journal.arrive.Goals.{After-unwrap}
use Rattle.pair_history.proofs.journal.Journal.arrive.Goals as goal

running_is : (c : After-unwrap) → epoch_entries c.push.new.self.items 0
    ≡ epoch_entries c.self.inside.running.arrivals.items c.self.inside.running.steps ++ Arrive c.args.number ∷ []
running_is c = search (arith, rules, epoch-arrives)

pub invariant_of-self : goal.invariant_of-self
invariant_of-self c = search (arith, rules, After-unwrap, length-all, length-append, running_is)

pub returns-clause-journal : goal.returns-clause-journal
returns-clause-journal c = search (arith, rules, After-unwrap, running_is)
