-- the lanes are the digits
use Rattle.std.proofs.Common.{rules, ◌≡◌, false, Some, length, sym, ap, ◌∙◌, arith}
use Rattle.std.specs.List.{list_all}
use Rattle.hex.{specs.Hex.{encode_lower, lower_digits}, proofs.HexLemmas.{length-encode_with}}
use Rattle.script_player.specs.internal.Digits.{is_lower_digit}
use Rattle.script_player.proofs.DeliveryLemmas.{all-lower, same-bytes}
use Rattle.script_player.proofs.digits.four_bytes.Goals as goal

pub returns-in_default-clause-only : goal.returns-in_default-clause-only
returns-in_default-clause-only c = λ bytes long small spelled.
    absurd (c.in_default.ensures.1 (omega (arith, long, ap length spelled, length-encode_with lower_digits bytes)))

pub returns-then-not-are_eight_digits-clause-only : goal.returns-then-not-are_eight_digits-clause-only
returns-then-not-are_eight_digits-clause-only c = λ bytes long small spelled.
    let low : list_all is_lower_digit c.args.text.now ≡ false = search rules in
    cc (sym low ∙ ap (list_all is_lower_digit) spelled ∙ all-lower bytes small)

pub returns-clause-only : goal.returns-clause-only
returns-clause-only c = λ bytes long small spelled.
    let read : c.args.text.now ≡ encode_lower c.four_of-four.result = search rules in
    ap Some (same-bytes c.args.text.now c.four_of-four.result bytes (rw c.as_slice.ensures at c.are_bytes.ensures) small read spelled)
