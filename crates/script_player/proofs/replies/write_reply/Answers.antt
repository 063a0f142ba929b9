-- the line of a reply tells which reply it was
use Rattle.script_player.proofs.ReplyLemmas.{readable}
use Rattle.script_player.proofs.replies.write_reply.Goals as goal

pub returns-clause-readable : goal.returns-clause-readable
returns-clause-readable c = readable c.args.reply.now c.spell.ensures.plain
