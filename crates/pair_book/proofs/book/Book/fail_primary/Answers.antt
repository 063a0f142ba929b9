use Rattle.std.proofs.Common.{rules, ap, refl}
use Rattle.failover.specs.declared.change.Change.TheVariants as changes
use Rattle.pair_record.specs.Modes.{change_refusal}
use Rattle.pair_record.specs.Protocol.{Outcome, Record}
use Rattle.pair_record.specs.laws.Modes.{mode_passed}
use Rattle.growing_history.specs.Steps.{PrimaryFailed}
use Rattle.pair_book.proofs.{FailureTies.primary-tied, CommittedTies.primary-keeps, TextLaws.texts-after}
use Rattle.pair_book.proofs.book.Book.fail_primary.Goals as goal

pub step_alone-requires-clause-legal : goal.step_alone-requires-clause-legal
step_alone-requires-clause-legal g c =
    let r = c.self.inside.record in
    let e = c.in_ok-fail_primary.ensures in
    let free = mode_passed (change_refusal changes.FailPrimary r.protocol.mode) _ e.free in
    (primary-tied c.self.invariant.0 free (ap (λ (o : Outcome). o.1) e.done) e.ports).legal

pub invariant_of-self-2 : goal.invariant_of-self-2
invariant_of-self-2 g c =
    let r = c.self.inside.record in
    let now = c.fail_primary.new.self in
    let e = c.in_ok-fail_primary.ensures in
    let done = ap (λ (o : Outcome). o.1) e.done in
    let free = mode_passed (change_refusal changes.FailPrimary r.protocol.mode) _ e.free in
    let tied = primary-tied c.self.invariant.0 free done e.ports in
    let keeps = primary-keeps c.self.invariant.1 0 free done e.ports in
    let texts = texts-after {now = now.protocol} c.self.invariant.2 0 PrimaryFailed refl refl
    (ap (λ (y : Record). y.generation) done) (ap (λ (y : Record). y.window) done) in
    search (rules, tied, keeps, texts)
