use Rattle.std.proofs.Common.{◌/◌, ◌++◌, length, take, drop, replicate, sym, ap, ◌∙◌}
use Rattle.std.specs.List.{list_all}
use Rattle.script_player.specs.internal.Digits.{is_lower_digit}
use Rattle.script_player.proofs.LaneLemmas.{front-read, fails-in-front, zeros-pass}
use Rattle.script_player.proofs.digits.put_few.Goals as goal

pub returns-in_default-clause-none : goal.returns-in_default-clause-none
returns-in_default-clause-none c _ =
    let digits = c.args.digits.now in
    let zeros = drop (length digits) (replicate 32 48) in
    fails-in-front digits zeros (ap (λ t. list_all is_lower_digit (t ++ zeros)) (sym c.copy_from_slice.ensures.after) ∙ c.in_default.ensures.none)
    (zeros-pass (length digits) 32)

pub returns-clause-read : goal.returns-clause-read
returns-clause-read c _ =
    let digits = c.args.digits.now in
    let zeros = drop (length digits) (replicate 32 48) in (
      take (length digits / 2) c.in-Some.bytes,
      c.put_reserved.ensures.items,
      front-read digits zeros c.in-Some.bytes c.requires.even
          (ap (λ t. t ++ zeros) (sym c.copy_from_slice.ensures.after) ∙ c.in-Some.ensures.found),
    )
