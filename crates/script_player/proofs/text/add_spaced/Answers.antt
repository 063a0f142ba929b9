use Rattle.std.proofs.Common.{◌++◌, ap, ◌∙◌, arith}
use Rattle.std.proofs.lemmas.List.{take_all}
use Rattle.script_player.specs.Printed.{spaced}
use Rattle.script_player.proofs.TextLemmas.{more-spaced, short-at}
use Rattle.script_player.proofs.text.add_spaced.Goals as goal

pub add_field-requires-clause-short : goal.add_field-requires-clause-short
add_field-requires-clause-short c = short-at c.args.fields.now c.loop-field.field-index _ c.requires.short c.loop-field-test.true

pub loop-field-preserved : goal.loop-field-preserved
loop-field-preserved c = (
  more-spaced c.args.fields.now c.loop-field.field-index _ c.args.text.now.items _ _ _ c.loop-field-test.true c.loop-field.invariant.0
      c.add.ensures.items c.add_field.ensures.items,
  omega (arith, c.loop-field.invariant.1, c.add_field.ensures.len, c.add.ensures.len),
)

pub returns-clause-items : goal.returns-clause-items
returns-clause-items c =
    let all = take_all c.loop-field.field-index c.args.fields.now c.loop-field-test.false in
    c.loop-field.invariant.0 ∙ ap (λ fs. c.args.text.now.items ++ spaced fs) all
