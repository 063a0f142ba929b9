use Rattle.std.proofs.Common.{rules, arith, ◌≡◌, ◌≤◌, ◌++◌, ◌∷◌, [], length}
use Rattle.std.proofs.lemmas.List.{map-append}
use Rattle.std.specs.Prelude.{map}
use Rattle.pair_history.specs.Epochs.{guest_epoch, behind}
use Rattle.pair_history.specs.Journal.{joined, kept_entries, sealed_as}
use Rattle.pair_history.specs.internal.JournalFields.{epoch_of, stored}
use Rattle.pair_history.proofs.EpochLaws.{first-is, others-are}
use Rattle.pair_history.specs.laws.Epochs.{kept-sealed}
use Rattle.pair_history.specs.laws.Joined.{length-all, length-kept}
use Rattle.pair_history.proofs.ArrivedLaws.{arrived-count}
use Rattle.pair_history.proofs.journal.Journal.seal_epoch.Goals.{After-self-1}
use Rattle.pair_history.proofs.journal.Journal.seal_epoch.Goals as goal

pub split-requires : goal.split-requires
split-requires c = search (arith, rules, arrived-count)

few : (c : After-self-1) → c.args.arrivals ≤ length c.self.inside.running.arrivals.items
few c = search (arith, rules, arrived-count)

sealed-are : (c : After-self-1) → map epoch_of c.push.new.self.items
    ≡ map epoch_of c.self.inside.sealed.items ++ guest_epoch c.args.arrivals c.args.steps (epoch_of c.self.inside.running) ∷ []
sealed-are c = search (arith, rules, few, first-is, map-append)

rest-is : (c : After-self-1) → epoch_of c.split.new.self ≡ behind c.args.arrivals (epoch_of c.self.inside.running)
rest-is c = search (arith, rules, few, others-are)

kept-are : (c : After-self-1) → length (joined (map epoch_of c.push.new.self.items) ++ epoch_of c.split.new.self)
    ≡ length (kept_entries (sealed_as (guest_epoch c.args.arrivals c.args.steps (epoch_of c.self.inside.running))
    (behind c.args.arrivals (epoch_of c.self.inside.running)) (stored c.self.inside).journal))
kept-are c = λ i. length (joined (sealed-are c i) ++ rest-is c i)

pub invariant_of-self-2 : goal.invariant_of-self-2
invariant_of-self-2 c =
    let at = (goal.at.invariant_of-self-2 c).After-self-1 in
    let j = (stored c.self.inside).journal in
    let kept = kept-are at in
    let more = kept-sealed c.args.arrivals c.args.steps j in
    let fits = rw (← c.self.view_is) at c.requires.fits in
    let all = length-all j in
    let ahead = length-kept j in
    let counted = c.self.invariant.counted in
    record { counted = omega arith; fits = omega arith }

pub returns-clause-ok : goal.returns-clause-ok
returns-clause-ok c =
    let at = (goal.at.returns-clause-ok c).After-self-1 in
    rw (← c.self.view_is) (λ i. record { history = c.self.inside.history.entries; sealed = sealed-are at i; running = rest-is at i })
