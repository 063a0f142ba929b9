-- The inbox loses its first frame, and all else stays.
use Rattle.std.proofs.Common.{sym, subst, ◌∙◌, drop, IfSome}
use Rattle.frame_ports.specs.Addresses.{IsFrame}
use Rattle.frame_ports.proofs.PortsLemmas.{client_from_test, inbox_changed_alone, inbox_seen, inbox-drop, IfSome-slice_get}
use Rattle.frame_ports.proofs.ports.Ports.admit.Goals as goal

pub invariant_of-self : goal.invariant_of-self
invariant_of-self c =
    let client = client_from_test c.args.self.now c.args.client (sym c.is_client.ensures ∙ c.if-not-is_client.false) in
    (inbox_changed_alone c.self.inside c.args.client c.args.self.now c.self.view_is c.self.invariant client (drop 1)
    c.index_mut-inbox.result.now c.pop_front-arrived.new.self c.index_mut-inbox.ensures.value c.pop_front-arrived.ensures.items
    (inbox-drop c.index_mut-inbox.result.now.items)).0

pub returns-clause-rest : goal.returns-clause-rest
returns-clause-rest c =
    let client = client_from_test c.args.self.now c.args.client (sym c.is_client.ensures ∙ c.if-not-is_client.false) in
    (inbox_changed_alone c.self.inside c.args.client c.args.self.now c.self.view_is c.self.invariant client (drop 1)
    c.index_mut-inbox.result.now c.pop_front-arrived.new.self c.index_mut-inbox.ensures.value c.pop_front-arrived.ensures.items
    (inbox-drop c.index_mut-inbox.result.now.items)).1

pub returns-clause-frame : goal.returns-clause-frame
returns-clause-frame c =
    let client = client_from_test c.args.self.now c.args.client (sym c.is_client.ensures ∙ c.if-not-is_client.false) in
    let at = inbox_seen c.self.inside c.args.client c.args.self.now c.self.view_is c.self.invariant client c.index_mut-inbox.result.now
    c.index_mut-inbox.ensures.value in
    subst (λ o. IfSome o (λ x. IsFrame x.1)) (sym c.pop_front-arrived.ensures.value)
    (IfSome-slice_get (λ x. IsFrame x.1) c.index_mut-inbox.result.now.items 0 at.1.1)
