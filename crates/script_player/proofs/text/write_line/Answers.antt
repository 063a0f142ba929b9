use Rattle.std.proofs.Common.{◌++◌, ap, ◌∙◌}
use Rattle.script_player.proofs.TextLemmas.{line-made}
use Rattle.script_player.proofs.text.write_line.Goals as goal

pub returns : goal.returns
returns c = line-made c.args.word.now c.args.fields.now _ _ _
    (c.add.ensures.items ∙ ap (λ t. t ++ c.as_bytes.result.now) c.clear.ensures ∙ c.as_bytes.ensures.value) c.add_spaced.ensures.items c.add-2.ensures.items
