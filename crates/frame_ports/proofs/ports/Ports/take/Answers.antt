-- The box loses its first frame, and the other lists stay.
use Rattle.std.proofs.Common.{sym, subst, ◌∙◌, drop, IfSome}
use Rattle.frame_ports.specs.Addresses.{IsFrame}
use Rattle.frame_ports.proofs.PortsLemmas.{client_from_test, box_changed, box_seen, box-drop, IfSome-slice_get}
use Rattle.frame_ports.proofs.ports.Ports.take.Goals as goal

pub invariant_of-self : goal.invariant_of-self
invariant_of-self c =
    let client = client_from_test c.args.self.now c.args.client (sym c.is_client.ensures ∙ c.if-not-is_client.false) in
    (box_changed c.self.inside c.args.client c.args.self.now c.self.view_is c.self.invariant client (drop 1) c.index_mut-landed.result.now
    c.pop_front-taken.new.self c.index_mut-landed.ensures.value c.pop_front-taken.ensures.items
    (box-drop c.index_mut-landed.result.now.items)).0

pub returns-clause-rest : goal.returns-clause-rest
returns-clause-rest c =
    let client = client_from_test c.args.self.now c.args.client (sym c.is_client.ensures ∙ c.if-not-is_client.false) in
    (box_changed c.self.inside c.args.client c.args.self.now c.self.view_is c.self.invariant client (drop 1) c.index_mut-landed.result.now
    c.pop_front-taken.new.self c.index_mut-landed.ensures.value c.pop_front-taken.ensures.items
    (box-drop c.index_mut-landed.result.now.items)).1

pub returns-clause-frame : goal.returns-clause-frame
returns-clause-frame c =
    let client = client_from_test c.args.self.now c.args.client (sym c.is_client.ensures ∙ c.if-not-is_client.false) in
    let at = box_seen c.self.inside c.args.client c.args.self.now c.self.view_is c.self.invariant client c.index_mut-landed.result.now
    c.index_mut-landed.ensures.value in
    subst (λ o. IfSome o IsFrame) (sym c.pop_front-taken.ensures.value)
    (IfSome-slice_get IsFrame c.index_mut-landed.result.now.items 0 at.1.1)
