-- the words that a text spells are a guest's, where they fit
use Rattle.std.proofs.Common.{arith}
use Rattle.script_player.proofs.GuestLemmas.{too-many, words-guest}
use Rattle.script_player.specs.laws.Options.{on-err}
use Rattle.script_player.proofs.boot.read_guest.Goals as goal

pub returns-then-count-from-clause-only : goal.returns-then-count-from-clause-only
returns-then-count-from-clause-only c = λ guest h.
    absurd (too-many c.args.pages _ c.args.text.now _ c.in-Some-after.ensures c.in-Some-count_words.ensures.some
    (omega (arith, c.if-count-from.true, c.from.ensures)) guest h)

pub returns-in_err-read_words-clause-err : goal.returns-in_err-read_words-clause-err
returns-in_err-read_words-clause-err c =
    on-err _ (words-guest c.args.pages _ c.args.text.now _ c.in-Some-after.ensures c.in-Some-count_words.ensures.some
    (omega (arith, c.if-count-from.false, c.from.ensures)))
