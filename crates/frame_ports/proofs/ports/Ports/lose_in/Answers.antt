-- The inbox loses the frame at that place, and all else stays.
use Rattle.std.proofs.Common.{sym, ◌∙◌, remove, arith}
use Rattle.frame_ports.proofs.PortsLemmas.{client_from_test, inbox_changed_alone, inbox_seen, inbox-remove, on_ok}
use Rattle.frame_ports.proofs.ports.Ports.lose_in.Goals as goal

pub remove_at-requires : goal.remove_at-requires
remove_at-requires c =
    let client = client_from_test c.args.self.now c.args.client (sym c.is_client.ensures ∙ c.if-not-is_client.false) in
    let at = inbox_seen c.self.inside c.args.client c.args.self.now c.self.view_is c.self.invariant client c.index_mut-inbox.result.now
    c.index_mut-inbox.ensures.value in
    omega (arith, at.1.0, at.2)

pub invariant_of-self : goal.invariant_of-self
invariant_of-self c =
    let client = client_from_test c.args.self.now c.args.client (sym c.is_client.ensures ∙ c.if-not-is_client.false) in
    (inbox_changed_alone c.self.inside c.args.client c.args.self.now c.self.view_is c.self.invariant client (λ xs. remove xs c.args.place)
    c.index_mut-inbox.result.now c.remove_at.new.ring c.index_mut-inbox.ensures.value c.remove_at.ensures.rest
    (inbox-remove c.index_mut-inbox.result.now.items c.args.place)).0

pub returns-clause-rest : goal.returns-clause-rest
returns-clause-rest c =
    let client = client_from_test c.args.self.now c.args.client (sym c.is_client.ensures ∙ c.if-not-is_client.false) in
    on_ok c.match-remove_at.result (inbox_changed_alone c.self.inside c.args.client c.args.self.now c.self.view_is c.self.invariant client
    (λ xs. remove xs c.args.place) c.index_mut-inbox.result.now c.remove_at.new.ring c.index_mut-inbox.ensures.value
    c.remove_at.ensures.rest (inbox-remove c.index_mut-inbox.result.now.items c.args.place)).1
