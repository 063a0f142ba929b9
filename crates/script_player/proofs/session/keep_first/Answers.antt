use Rattle.std.proofs.Common.{◌-◌, ◌++◌, ◌∙◌, ap, length, take}
use Rattle.script_player.proofs.OpenLines.{first-more}
use Rattle.script_player.proofs.session.keep_first.Goals as goal

pub returns : goal.returns
returns c = λ text held.
    c.add.ensures.items ∙ ap (λ t. t ++ take c.min-count.result c.args.bytes.now) held
    ∙ first-more text c.args.bytes.now (33 - c.len.result) c.min-count.result (ap (λ n. 33 - n) (c.len.ensures.value ∙ ap length held))
    c.min-count.ensures
