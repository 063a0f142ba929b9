-- digits that pass the tests write bytes, and those that write bytes pass them
use Rattle.std.proofs.Common.{◌∙◌, sym, arith}
use Rattle.script_player.proofs.DeliveryLemmas.{they-are, they-write}
use Rattle.script_player.proofs.delivery.are_lower_hex.Goals as goal

pub returns-then-has_upper_case-clause-none : goal.returns-then-has_upper_case-clause-none
returns-then-has_upper_case-clause-none c = λ no bytes h.
    cc (sym c.if-has_upper_case.true ∙ c.has_upper_case.ensures ∙ (they-are c.args.digits.now bytes h).low)

pub returns-then-digits-eq0-clause-some : goal.returns-then-digits-eq0-clause-some
returns-then-digits-eq0-clause-some c = λ is. they-write c.args.digits.now (record {
  some = grind arith;
  even = grind arith;
  low = sym c.has_upper_case.ensures ∙ c.if-has_upper_case.false;
  all = sym c.are_hex_digits.ensures ∙ is;
})

pub returns-then-digits-eq0-clause-none : goal.returns-then-digits-eq0-clause-none
returns-then-digits-eq0-clause-none c = λ no bytes h.
    cc (sym no ∙ c.are_hex_digits.ensures ∙ (they-are c.args.digits.now bytes h).all)

pub returns-else-digits-eq0-clause-none : goal.returns-else-digits-eq0-clause-none
returns-else-digits-eq0-clause-none c = λ no bytes h.
    let are = they-are c.args.digits.now bytes h in
    grind (arith, are.even, are.some, c.if-digits-eq0.false)
