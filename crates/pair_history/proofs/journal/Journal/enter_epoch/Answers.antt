use Rattle.std.proofs.Common.{rules, arith, ◌≡◌, ◌∙◌, ◌+◌, ◌≤◌, ◌++◌, [], length, sym, ap}
use Rattle.std.proofs.lemmas.List.{length-append}
use Rattle.pair_history.specs.Epochs.{guest_epoch, behind}
use Rattle.pair_history.specs.Journal.{joined}
use Rattle.pair_history.specs.internal.Arrivals.{epoch_entries}
use Rattle.pair_history.specs.internal.JournalFields.{epoch_of, stored}
use Rattle.pair_history.proofs.EpochLaws.{first-is, others-are}
use Rattle.pair_history.specs.laws.Epochs.{length-parted}
use Rattle.pair_history.specs.laws.Joined.{length-all, length-kept}
use Rattle.pair_history.proofs.ArrivedLaws.{arrived-count}
use Rattle.pair_history.proofs.journal.Journal.enter_epoch.Goals.{After-as_slice-2}
use Rattle.pair_history.proofs.journal.Journal.enter_epoch.Goals as goal

pub slice_bounds-first-end : goal.slice_bounds-first-end
slice_bounds-first-end c = search (arith, rules, arrived-count)

pub split-requires : goal.split-requires
split-requires c = search (arith, rules, arrived-count)

few : (c : After-as_slice-2) → c.args.arrivals ≤ length c.self.inside.running.arrivals.items
few c = search (arith, rules, arrived-count)

epoch-is : (c : After-as_slice-2) → epoch_entries c.as_slice-2.result.now c.args.steps
    ≡ guest_epoch c.args.arrivals c.args.steps (epoch_of c.self.inside.running)
epoch-is c = search (arith, rules, few, first-is)

rest-is : (c : After-as_slice-2) → epoch_of c.split.new.self ≡ behind c.args.arrivals (epoch_of c.self.inside.running)
rest-is c = search (arith, rules, few, others-are)

-- how many entries there are
long : (c : After-as_slice-2) → length (c.reserve.new.self.entries ++ epoch_entries c.as_slice-2.result.now c.args.steps)
    ≡ length c.self.inside.history.entries + length (guest_epoch c.args.arrivals c.args.steps (epoch_of c.self.inside.running))
long c = search (arith, rules, epoch-is, length-append)

pub add_epoch-requires-clause-fits : goal.add_epoch-requires-clause-fits
add_epoch-requires-clause-fits c =
    let at = (goal.at.add_epoch-requires-clause-fits c).After-as_slice-2 in
    let j = (stored c.self.inside).journal in
    let is = long at in
    let parts = length-parted c.args.arrivals c.args.steps j.running in
    let fits = rw (← c.self.view_is) at c.requires.fits in
    let all = length-all j in
    omega arith

pub overflow_sub-self : goal.overflow_sub-self
overflow_sub-self c =
    let at = (goal.at.overflow_sub-self c).After-as_slice-2 in
    let j = (stored c.self.inside).journal in
    let is = long at in
    let entries = ap length c.add_epoch.ensures.entries in
    let before = c.len-before.ensures in
    let after = c.len.ensures in
    let old = ap length c.in_ok-reserve.ensures.entries in
    let parts = length-parted c.args.arrivals c.args.steps j.running in
    let kept = length-kept j in
    let counted = c.self.invariant.counted in
    omega arith

pub invariant_of-self-2 : goal.invariant_of-self-2
invariant_of-self-2 c =
    let at = (goal.at.invariant_of-self-2 c).After-as_slice-2 in
    let j = (stored c.self.inside).journal in
    let is = long at in
    let rest = ap length (rest-is at) in
    let entries = ap length c.add_epoch.ensures.entries in
    let before = c.len-before.ensures in
    let after = c.len.ensures in
    let old = ap length c.in_ok-reserve.ensures.entries in
    let ahead = length-append (joined j.sealed) (epoch_of c.split.new.self) in
    let parts = length-parted c.args.arrivals c.args.steps j.running in
    let fits = rw (← c.self.view_is) at c.requires.fits in
    let all = length-all j in
    let kept = length-kept j in
    let counted = c.self.invariant.counted in
    record { counted = omega arith; fits = omega arith }

pub returns-clause-ok : goal.returns-clause-ok
returns-clause-ok c =
    let at = (goal.at.returns-clause-ok c).After-as_slice-2 in
    let j = (stored c.self.inside).journal in
    let none : j.sealed ≡ [] = rw (← c.self.view_is) at c.requires.none in
    let es = guest_epoch c.args.arrivals c.args.steps j.running in
    let history =
    c.add_epoch.ensures.entries ∙ (λ i. c.in_ok-reserve.ensures.entries i ++ epoch-is at i)
    ∙ (λ i. j.history ++ (joined (sym none i) ++ es)) in
    rw (← c.self.view_is) (λ i. record { history = history i; sealed = none i; running = rest-is at i })
