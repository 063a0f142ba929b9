use Rattle.std.proofs.Common.{◌≡◌, ap, length, arith}
use Rattle.script_player.specs.laws.Options.{if-none}
use Rattle.script_player.proofs.WordsLemmas.{counted-more, reading_all, reading_done, reading_empty}
use Rattle.script_player.proofs.boot.count_words.Goals as goal

pub returns-in_err-others-clause-none : goal.returns-in_err-others-clause-none
returns-in_err-others-clause-none c = if-none c.from_residual.result (λ ws h.
    let before = c.loop-rest.invariant.1 in
    let last = reading_done c.args.text.now before.0 c.loop-rest.rest.now before.2 c.in_err-others.ensures.only ws h in
    let none : length c.loop-rest.rest.now ≡ 0 = ap length last.1 in
    grind (arith, none))

pub loop-rest-preserved : goal.loop-rest-preserved
loop-rest-preserved c = (
  omega (arith, c.loop-rest.invariant.0, c.in_ok-others.ensures.shorter),
  counted-more _ _ _ _ _ c.loop-rest.invariant.1 c.in_ok-others.ensures.small c.in_ok-others.ensures.found c.in_ok-others.ensures.only,
)

pub returns-then-count-eq0-clause-none : goal.returns-then-count-eq0-clause-none
returns-then-count-eq0-clause-none c = λ ws h.
    let before = c.loop-rest.invariant.1 in
    let none : length c.loop-rest.rest.now ≡ 0 = grind arith in
    let no_word : length before.0 ≡ 0 = grind (arith, before.1) in
    absurd (reading_empty c.args.text.now before.0 c.loop-rest.rest.now before.2 none no_word ws h)

pub returns-clause-some : goal.returns-clause-some
returns-clause-some c =
    let before = c.loop-rest.invariant.1 in
    let none : length c.loop-rest.rest.now ≡ 0 = grind arith in
    (before.0, reading_all c.args.text.now before.0 c.loop-rest.rest.now before.2 none (grind (arith, before.1)), before.1)
