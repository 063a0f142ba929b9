-- The box loses the frame at that place, and the other lists stay.
use Rattle.std.proofs.Common.{sym, ◌∙◌, ap, remove, arith, nat_lt, length, is_some, List, ℕ}
use Rattle.frame_ports.proofs.PortsLemmas.{client_from_test, box_changed, box_seen, box-remove, is_some-slice_get, answer_for_client}
use Rattle.arrayvec.specs.ArrayVec.{ArrayVec}
use Rattle.frame_ports.specs.Ports.{box_of}
use Rattle.frame_ports.proofs.ports.Ports.lose_landed.Goals as goal

pub remove_at-requires : goal.remove_at-requires
remove_at-requires c =
    let client = client_from_test c.args.self.now c.args.client (sym c.is_client.ensures ∙ c.if-not-is_client.false) in
    let at = box_seen c.self.inside c.args.client c.args.self.now c.self.view_is c.self.invariant client c.index_mut-landed.result.now
    c.index_mut-landed.ensures.value in
    omega (arith, at.1.0, at.2)

pub invariant_of-self : goal.invariant_of-self
invariant_of-self c =
    let client = client_from_test c.args.self.now c.args.client (sym c.is_client.ensures ∙ c.if-not-is_client.false) in
    (box_changed c.self.inside c.args.client c.args.self.now c.self.view_is c.self.invariant client (λ xs. remove xs c.args.place)
    c.index_mut-landed.result.now c.remove_at.new.ring c.index_mut-landed.ensures.value c.remove_at.ensures.rest
    (box-remove c.index_mut-landed.result.now.items c.args.place)).0

pub returns-clause-answer : goal.returns-clause-answer
returns-clause-answer c =
    let test = sym c.is_client.ensures ∙ c.if-not-is_client.false in
    let client = client_from_test c.args.self.now c.args.client test in
    let at = box_seen c.self.inside c.args.client c.args.self.now c.self.view_is c.self.invariant client c.index_mut-landed.result.now
    c.index_mut-landed.ensures.value in
    let xs = c.index_mut-landed.result.now.items in
    answer_for_client c.args.self.now c.args.client c.is_some.result
    (nat_lt c.args.place (length (box_of c.args.self.now c.args.client))) test
    (c.is_some.ensures ∙ ap (λ o. is_some o) c.remove_at.ensures.item ∙ is_some-slice_get xs c.args.place
    ∙ ap (λ (l : List (ArrayVec ℕ)). nat_lt c.args.place (length l)) (sym at.0))

pub returns-clause-rest : goal.returns-clause-rest
returns-clause-rest c =
    let client = client_from_test c.args.self.now c.args.client (sym c.is_client.ensures ∙ c.if-not-is_client.false) in
    (box_changed c.self.inside c.args.client c.args.self.now c.self.view_is c.self.invariant client (λ xs. remove xs c.args.place)
    c.index_mut-landed.result.now c.remove_at.new.ring c.index_mut-landed.ensures.value c.remove_at.ensures.rest
    (box-remove c.index_mut-landed.result.now.items c.args.place)).1
