use Rattle.std.proofs.Common.{[], sym, subst}
use Rattle.growing_history.specs.Views.{Member}
use Rattle.pair_book.specs.Standing.{KeepsFrames}
use Rattle.book_tests.proofs.HostLaws.{still-like, still-runs}
use Rattle.book_tests.proofs.hosts.opened.Goals as goal

pub host_of-requires-clause-like : goal.host_of-requires-clause-like
host_of-requires-clause-like g c = still-like g.P.Pair.start _ c.requires.1 _ c.in_ok-machine.ensures

pub host_of-requires-clause-runs : goal.host_of-requires-clause-runs
host_of-requires-clause-runs g c =
    let start = g.P.Pair.start in
    ([], still-runs start _ c.requires.1 _ c.in_ok-machine.ensures _ c.in_ok-seated.ensures.runner (c.members_begin.ensures.runner start))

pub host_of-requires-clause-keeps : goal.host_of-requires-clause-keeps
host_of-requires-clause-keeps g c =
    let start = g.P.Pair.start in
    let none : KeepsFrames start c.in_ok-seated.seated.value.backup 0 1 [] =
    subst (λ (m : Member). KeepsFrames start m 0 1 []) (sym c.in_ok-seated.ensures.backup) (c.members_begin.ensures.backup start).frames in
    (0, rw c.new.ensures.items none)
