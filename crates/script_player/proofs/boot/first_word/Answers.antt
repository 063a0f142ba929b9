-- a text that begins with a word has its field in the first nine bytes
use Rattle.std.proofs.Common.{◌∙◌, refl, arith}
use Rattle.script_player.proofs.WordsLemmas.{front-field}
use Rattle.script_player.specs.laws.Options.{some_same}
use Rattle.script_player.proofs.boot.first_word.Goals as goal

pub returns-in_err-field-clause-only : goal.returns-in_err-field-clause-only
returns-in_err-field-clause-only c = λ w others small e.
    let parts = front-field c.args.text.now w others e in
    absurd (omega (arith, parts.2, c.in_err-field.ensures.cases))

pub returns-in_err-word-clause-only : goal.returns-in_err-word-clause-only
returns-in_err-word-clause-only c = λ w others small e.
    let parts = front-field c.args.text.now w others e in
    cc (c.in_err-word.ensures.only w small (c.as_slice.ensures ∙ c.in_ok-field.ensures.cases.0 ∙ parts.0))

pub returns-clause-only : goal.returns-clause-only
returns-clause-only c = λ w others small e.
    let parts = front-field c.args.text.now w others e in
    let word = some_same (c.in_ok-word.ensures.only w small (c.as_slice.ensures ∙ c.in_ok-field.ensures.cases.0 ∙ parts.0)) in
    let rest = c.in_ok-field.ensures.cases.1 ∙ parts.1 in
    rw (word, rest) refl
