use Rattle.std.proofs.Common.{sym, subst}
use Rattle.script_player.proofs.WordsLemmas.{Reading, reading_goes_on, reading_done}
use Rattle.script_player.proofs.boot.read_words.Goals as goal

pub loop-word-preserved : goal.loop-word-preserved
loop-word-preserved c =
    subst (λ words. Reading c.args.text.now words c.in-Some.others.now) (sym c.in_ok-push.ensures.items)
    (reading_goes_on c.args.text.now c.loop-word.words.items c.loop-word.rest.now c.in-Some.others.now c.in-Some.word
    c.loop-word.invariant c.in-Some.ensures.small c.in-Some.ensures.found c.in-Some.ensures.only)

pub returns : goal.returns
returns c = λ ws h.
    (reading_done c.args.text.now c.loop-word.words.items c.loop-word.rest.now c.loop-word.invariant c.in_default.ensures.only ws h).0
