use Rattle.script_player.proofs.OpenLines.{long-head, short-head}
use Rattle.std.proofs.Common.{◌∙◌, ap, arith}
use Rattle.script_player.proofs.session.OpenLine.following.Goals as goal

pub returns-then-len-gt-MOST_HEAD_BYTES : goal.returns-then-len-gt-MOST_HEAD_BYTES
returns-then-len-gt-MOST_HEAD_BYTES g c = λ text held.
    long-head g.P.LinePlayer.follow text c.args.self.now.first.items held.first (omega arith)

pub returns-else-len-gt-MOST_HEAD_BYTES : goal.returns-else-len-gt-MOST_HEAD_BYTES
returns-else-len-gt-MOST_HEAD_BYTES g c = λ text held.
    c.following.ensures ∙ ap g.P.LinePlayer.follow c.as_slice.ensures.value
    ∙ short-head g.P.LinePlayer.follow text c.args.self.now.first.items held.first (omega arith)
