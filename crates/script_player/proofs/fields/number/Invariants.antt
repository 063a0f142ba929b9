-- the digits so far write the value, which isn't too large
use Rattle.std.proofs.Common.{◌≡◌, ◌<◌, ◌^◌, true, take}
use Rattle.std.specs.Str.{all_ascii_digits}
use Rattle.std.specs.Str.Parse.{digits_value}
use Rattle.script_player.proofs.fields.number.Given as goal

abbrev pub invariant-loop-digit : goal.invariant-loop-digit
invariant-loop-digit l =
    (l.value ≡ digits_value 10 (take l.digit-index l.text)) × (all_ascii_digits (take l.digit-index l.text) ≡ true) × (l.value < 2 ^ 64)
