use Rattle.std.proofs.Common.{rules, ℕ, ◌≡◌, ◌+◌, ◌≤◌, ◌++◌, [], ◌∷◌, List, length, ap, sym, ◌∙◌, arith, append_assoc, subst}
use Rattle.std.proofs.lemmas.List.{append-nil, length-append}
use Rattle.std.specs.Prelude.{All}
use Rattle.arrayvec.specs.ArrayVec.{ArrayVec}
use Rattle.frame_ports.specs.{Addresses.clients_of, Ports.IsClient, Targets.AreTargets}
use Rattle.frame_ports.specs.laws.Addresses.{clients_from-range}
use Rattle.output_gate.specs.Landings.{clients_for}
use Rattle.output_gate.proofs.Receivers.{from_on, next_yes, next_no, span_starts, span_ends}
use Rattle.output_gate.proofs.routes.receivers_of.Goals.{then-contains, else-contains, After-span-first}
use Rattle.output_gate.proofs.routes.receivers_of.Goals as goal

few : (c : After-span-first) → c.clients-clients.result ≤ 16
few c = let p = c.clients-clients.ensures.ports in let q = p.clients.1 in let e = c.clients-clients.ensures.count in omega arith

are : (c : After-span-first) → AreTargets c.clients-clients.result c.args.frame.now c.route-targets.result
are c = rw c.clients-clients.ensures.count c.route-targets.ensures

pub loop-client-init : goal.loop-client-init
loop-client-init c =
    let d = (goal.at.loop-client-init c).After-span-first in
    let low = c.span-first.ensures.low in
    let none : c.new-found.result.items ≡ [] = search rules in
    let long = ap (λ (l : List ℕ). length l) none in
    record {
      first = c.span-first.ensures.first;
      few = omega (arith, long, c.span-first.ensures.first);
      most = omega arith;
      all =
          ap (λ (l : List ℕ). l ++ from_on c.clients-clients.result c.span-first.result.0 c.args.frame.now) none
          ∙ span_starts c.clients-clients.result c.args.frame.now c.route-targets.result c.span-first.result.0 c.span-first.result.1
          (are d) (few d) c.span-first.ensures.all c.span-first.ensures.first;
    }

pub loop-client-preserved : goal.loop-client-preserved
loop-client-preserved c =
    let n = c.clients-clients.result in
    let bytes = c.args.frame.now in
    let i = c.loop-client.client in
    let old = c.loop-client.found.items in
    let rest = from_on n (i + 1) bytes in
    let v = c.loop-client.invariant in
    let d = (goal.at.loop-client-preserved c).After-span-first in
    let high : i ≤ n = omega arith in
    elim c.if-contains.branch [
      | then-contains w ↦
          let e = next_yes n i bytes c.route-targets.result (are d) v.first high (few d) (sym c.contains.ensures ∙ w.if-contains.true) in
          let is = ap (λ (x : ArrayVec ℕ). x.items) w.found-is ∙ w.push.ensures.items in
          record {
            first = omega arith;
            few = let x = ap (λ (l : List ℕ). length l) is in let y = length-append old (i ∷ []) in let s = v.few in omega arith;
            most = omega arith;
            all = ap (λ l. l ++ rest) is ∙ append_assoc old (i ∷ []) rest ∙ ap (λ l. old ++ l) (sym e) ∙ v.all;
          }
      | else-contains w ↦
          let e = next_no n i bytes c.route-targets.result (are d) v.first high (few d) (sym c.contains.ensures ∙ w.if-contains.false) in
          let is = ap (λ (x : ArrayVec ℕ). x.items) w.found-is in
          record {
            first = omega arith;
            few = let x = ap (λ (l : List ℕ). length l) is in let s = v.few in omega arith;
            most = omega arith;
            all = ap (λ l. l ++ rest) is ∙ ap (λ l. old ++ l) (sym e) ∙ v.all;
          }
    ]

-- where the loop ends none remains
found-are : (c : goal.After-loop-client) → c.loop-client.found.items ≡ clients_for c.args.ports.now (record { items = c.args.frame.now })
found-are c =
    let bytes = c.args.frame.now in
    let d = (goal.at.returns-clause-clients c).After-span-first in
    let none = span_ends c.clients-clients.result bytes c.route-targets.result c.span-first.result.0 c.span-first.result.1 (are d) (few d)
    c.span-first.ensures.all c.loop-client.client c.loop-client.invariant.first c.loop-client-test.false in
    sym (append-nil c.loop-client.found.items) ∙ ap (λ l. c.loop-client.found.items ++ l) (sym none) ∙ c.loop-client.invariant.all
    ∙ ap (λ n. clients_of n bytes) c.clients-clients.ensures.count

pub returns-clause-clients : goal.returns-clause-clients
returns-clause-clients c = found-are c

pub returns-clause-known : goal.returns-clause-known
returns-clause-known c =
    let p = c.args.ports.now in
    subst (All (IsClient p)) (sym (found-are c))
    (λ k d inside. let at = clients_from-range (length p.boxes) 1 c.args.frame.now k d inside in (at.0, omega (arith, at.1)))

pub returns-clause-few : goal.returns-clause-few
returns-clause-few c = omega (arith, c.loop-client.invariant.few, c.loop-client.invariant.most)

pub returns-clause-ports : goal.returns-clause-ports
returns-clause-ports c = c.clients-clients.ensures.ports.clients.1
