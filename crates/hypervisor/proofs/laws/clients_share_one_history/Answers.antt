use Rattle.std.proofs.Common.{◌≡◌, refl, subst, sym}
use Rattle.growing_history.specs.Steps.{Begins}
use Rattle.hypervisor.specs.Clients.{ClientState, own}
use Rattle.hypervisor.proofs.Points.{shared, relearned}
use Rattle.hypervisor.proofs.laws.clients_share_one_history.Goals as goal

pub returns-clause-shared : goal.returns-clause-shared
returns-clause-shared g c =
    let law = c.clients_have_one_guest_that_never_fails.ensures in
    let start = g.P.Pair.start in
    let one = c.args.one.now in
    let other = c.args.other.now in
    let one' = c.learn-2.new.self in
    let other' = c.learn.new.self in
    let first = relearned start one.seen c.tell-told.result other other other' c.tell-told.ensures.badge refl c.learn.ensures.learns in
    let second = relearned start other'.seen c.tell-told-2.result one c.tell-told.new.self one' c.tell-told-2.ensures.badge
    c.tell-told.ensures.same c.learn-2.ensures.learns in
    shared start one one' other other' first second
    (λ none. record {
      legal = law.legal start other'.seen first.legal none;
      answers = law.answers start other'.seen first.legal none;
      came = λ d. law.landed start other'.seen d;
    })
    c.steps_go_on.ensures.begins

pub returns-clause-one : goal.returns-clause-one
returns-clause-one g c =
    let second = relearned g.P.Pair.start c.learn.new.self.seen c.tell-told-2.result c.args.one.now c.tell-told.new.self c.learn-2.new.self
    c.tell-told-2.ensures.badge c.tell-told.ensures.same c.learn-2.ensures.learns in
    (second.seen, second.own)

pub returns-clause-other : goal.returns-clause-other
returns-clause-other g c =
    let start = g.P.Pair.start in
    let other = c.args.other.now in
    let first = relearned start c.args.one.now.seen c.tell-told.result other other c.learn.new.self c.tell-told.ensures.badge refl
    c.learn.ensures.learns in
    subst (λ (s : ClientState). Begins other.seen s.seen × (own start s ≡ own start other)) (sym c.tell-told-2.ensures.same)
    (first.seen, first.own)
