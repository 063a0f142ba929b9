-- digit by digit, until one is another character, or what they write is too large
use Rattle.std.proofs.Common.{◌+◌, Some, sym, ap, ◌∙◌, arith}
use Rattle.std.specs.Str.Parse.{digits_value}
use Rattle.std.specs.Str.{all_ascii_digits}
use Rattle.std.proofs.lemmas.List.{take_all}
use Rattle.script_player.proofs.FieldLemmas.{digits-more, value-more, number-not_digits, number-too_large, number-digits}
use Rattle.script_player.proofs.fields.number.Goals as goal

pub returns-then-not-is_ascii_digit : goal.returns-then-not-is_ascii_digit
returns-then-not-is_ascii_digit c =
    sym (number-not_digits c.args.text.now c.loop-digit.digit-index (omega arith) (sym c.if-not-is_ascii_digit.ensures.value))

pub returns-in_err-checked_mul : goal.returns-in_err-checked_mul
returns-in_err-checked_mul c =
    let more = value-more c.args.text.now c.loop-digit.digit-index (omega arith) (sym c.if-not-is_ascii_digit.ensures.value) in
    c.from_residual.ensures
    ∙ sym (number-too_large c.args.text.now (c.loop-digit.digit-index + 1)
    (omega (arith, more, c.loop-digit.invariant.0, c.in_err-checked_mul.ensures)))

pub returns-in_err-value : goal.returns-in_err-value
returns-in_err-value c =
    let more = value-more c.args.text.now c.loop-digit.digit-index (omega arith) (sym c.if-not-is_ascii_digit.ensures.value) in
    c.from_residual-in_err-value.ensures
    ∙ sym (number-too_large c.args.text.now (c.loop-digit.digit-index + 1)
    (omega (arith, more, c.loop-digit.invariant.0, c.in_ok-checked_mul.ensures.1, c.from.ensures, c.in_err-value.ensures)))

pub loop-digit-preserved : goal.loop-digit-preserved
loop-digit-preserved c =
    let digit = sym c.if-not-is_ascii_digit.ensures.value in
    let more = value-more c.args.text.now c.loop-digit.digit-index (omega arith) digit in (
      omega (arith, more, c.loop-digit.invariant.0, c.in_ok-checked_mul.ensures.1, c.from.ensures, c.in_ok-value.ensures.1),
      digits-more c.args.text.now c.loop-digit.digit-index (omega arith) c.loop-digit.invariant.1 digit,
      omega (arith, c.in_ok-value.ensures.0, c.in_ok-value.ensures.1),
    )

pub returns : goal.returns
returns c =
    let text = c.args.text.now in
    let whole = take_all c.loop-digit.digit-index text (omega arith) in
    let value = c.loop-digit.invariant.0 ∙ ap (digits_value 10) whole in
    ap Some value ∙ sym (number-digits text (
      ap all_ascii_digits (sym whole) ∙ c.loop-digit.invariant.1,
      grind (arith, c.if-is_empty.ensures),
      omega (arith, value, c.loop-digit.invariant.2),
    ))
