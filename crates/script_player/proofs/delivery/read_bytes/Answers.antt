use Rattle.std.proofs.Common.{◌<◌, length, arith}
use Rattle.script_player.proofs.DeliveryLemmas.{read-hex, read-only, they-are}
use Rattle.script_player.proofs.delivery.read_bytes.Goals as goal

pub returns-then-is_empty-clause-only : goal.returns-then-is_empty-clause-only
returns-then-is_empty-clause-only c = λ bytes h. let some = (they-are c.args.digits.now bytes h).some in absurd (grind (arith, some))

pub returns-then-digits-eq1-clause-only : goal.returns-then-digits-eq1-clause-only
returns-then-digits-eq1-clause-only c = λ bytes h. let even = (they-are c.args.digits.now bytes h).even in absurd (omega (arith, even))

pub returns-in-Ok-clause-found : goal.returns-in-Ok-clause-found
returns-in-Ok-clause-found c =
    let some : 0 < length c.args.digits.now = grind arith in
    read-hex c.args.digits.now (λ v. v.items) c.read_into.result c.read_into.ensures.found some

pub returns-in-Ok-clause-only : goal.returns-in-Ok-clause-only
returns-in-Ok-clause-only c = λ bytes h.
    read-only c.args.digits.now bytes (λ v. v.items) c.read_into.result c.read_into.ensures.found c.read_into.ensures.none h
