use Rattle.script_player.proofs.ReplyLemmas.{name-short}
use Rattle.script_player.proofs.replies.write_refusal.Goals as goal

pub write_line-requires-clause-short : goal.write_line-requires-clause-short
write_line-requires-clause-short c = (tt, (rw c.name.ensures (name-short c.args.refusal.now), tt))
