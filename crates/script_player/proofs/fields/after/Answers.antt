use Rattle.std.proofs.lemmas.{Slice.Eq.strip_prefix_is, Bool.Decides.Decides-eqb}
use Rattle.script_player.proofs.FieldLemmas.{after_cases}
use Rattle.script_player.proofs.fields.after.Goals as goal

pub returns : goal.returns
returns c = after_cases c.args.front.now c.args.text.now c.strip_prefix.result
    (strip_prefix_is Decides-eqb c.args.text.now c.args.front.now c.strip_prefix.result c.strip_prefix.ensures.cases)
