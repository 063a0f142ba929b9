use Rattle.std.proofs.Common.{◌++◌, map, sym, ap}
use Rattle.pair_history.specs.Entries.{DropIn}
use Rattle.pair_history.specs.Failures.{arrived_numbers, all_land}
use Rattle.pair_history.specs.laws.Sorted.{rising-sorted}
use Rattle.pair_history.specs.laws.GoingLive.{go_live_leaves}
use Rattle.pair_history.proofs.FailureLaws.{go_live_stays}
use Rattle.pair_history.proofs.failures.going_live_lands_what_is_owed.Goals as goal

pub returns-clause-owed : goal.returns-clause-owed
returns-clause-owed c s kept h = go_live_leaves s kept h.clients h.fit

pub returns-clause-account : goal.returns-clause-account
returns-clause-account c = go_live_stays

pub returns-clause-any_sort : goal.returns-clause-any_sort
returns-clause-any_sort c s kept ns moved sorted =
    ap (λ ms. map DropIn ms ++ all_land s) (sym (rising-sorted (arrived_numbers kept) ns moved sorted))
