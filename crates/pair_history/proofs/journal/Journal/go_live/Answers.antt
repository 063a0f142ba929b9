use Rattle.std.proofs.{Common.{rules, ◌≡◌, ◌++◌, length, sym, ap, arith}, lemmas.List.length-append}
use Rattle.std.specs.Prelude.{map}
use Rattle.pair_history.specs.Failures.{drops_of_taken_in}
use Rattle.pair_history.specs.internal.Arrivals.{epoch_entries}
use Rattle.pair_history.specs.Journal.{joined, kept_entries}
use Rattle.pair_history.specs.internal.JournalFields.{stored, epoch_of}
use Rattle.pair_history.proofs.ArrivedLaws.{as_many, live_history}
use Rattle.pair_history.specs.laws.Joined.{length-drops}
use Rattle.pair_history.proofs.journal.Journal.go_live.Goals.{After-as_slice-2, After-add_drops_in}
use Rattle.pair_history.proofs.journal.Journal.go_live.Goals as goal

-- as many numbers as were counted
numbers : (c : After-as_slice-2) → length c.as_slice-2.result.now ≡ c.taken_in-count.result
numbers c = search (arith, rules, as_many)

pub add_drops_in-requires-clause-room : goal.add_drops_in-requires-clause-room
add_drops_in-requires-clause-room c = search (arith, rules, After-as_slice-2, numbers)

pub add_drops_in-requires-clause-fits : goal.add_drops_in-requires-clause-fits
add_drops_in-requires-clause-fits c = search (arith, rules, After-as_slice-2, numbers)

-- the history after it
history : (c : After-add_drops_in) → c.add_drops_in.new.history.entries
    ≡ c.self.inside.history.entries ++ drops_of_taken_in (kept_entries (stored c.self.inside).journal)
history c =
    live_history c.self.inside c.as_slice.result.now c.in_ok-numbers.numbers.items c.as_slice.ensures.value c.in_ok-numbers.ensures.same
    c.as_slice-2.result.now c.reserve.new.self.entries c.add_drops_in.new.history.entries
    c.in_ok-numbers.ensures.sorted c.as_slice-2.ensures.value c.reserve.ensures.entries c.add_drops_in.ensures.entries

pub invariant_of-self-2 : goal.invariant_of-self-2
invariant_of-self-2 c =
    let a = c.self.inside in
    let j = (stored a).journal in
    let none : length (joined (map epoch_of c.clear.new.self.items) ++ epoch_of c.new.result) ≡ 0 =
    λ i. length (joined (map epoch_of (c.clear.ensures.items i)) ++ epoch_entries (c.new.ensures.none i) (c.new.ensures.still i)) in
    let fits = rw (← c.self.view_is) at c.requires.fits in
    let is = ap length (history (goal.at.invariant_of-self-2 c).After-add_drops_in) in
    let both = length-append a.history.entries (drops_of_taken_in (kept_entries j)) in
    let count = length-drops j in
    record { counted = sym none; fits = omega arith }

pub returns-clause-ok : goal.returns-clause-ok
returns-clause-ok c = search (arith, rules, After-add_drops_in, history)

pub returns-clause-room : goal.returns-clause-room
returns-clause-room c = search (arith, rules, After-add_drops_in, numbers)
