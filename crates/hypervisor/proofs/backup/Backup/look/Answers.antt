use Rattle.std.proofs.Common.{ap, subst, sym}
use Rattle.growing_history.specs.LogState.{LegalSteps}
use Rattle.growing_history.specs.Views.{Member}
use Rattle.hypervisor.proofs.FirstBackups.{seat-on}
use Rattle.hypervisor.proofs.Steps.{looks-at}
use Rattle.hypervisor.proofs.backup.Backup.look.Goals as goal

pub invariant_of-self : goal.invariant_of-self
invariant_of-self g c =
    let start = g.P.Pair.start in
    let shows = c.show.ensures.shows in
    let legal = subst (λ (m : Member). LegalSteps start m.steps) (sym shows.sees) c.show.ensures.legal in
    seat-on start _ _ _ _ c.self.invariant c.show.new.seat c.members_go_on.ensures.backup (ap (λ (m : Member). m.number) shows.sees)
    (looks-at start c.args.book.now c.self.inside.seat c.show.new.seat shows legal)
