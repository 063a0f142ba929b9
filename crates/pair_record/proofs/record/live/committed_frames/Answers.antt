use Rattle.std.proofs.Common.{◌∙◌}
use Rattle.pair_record.proofs.LiveLaws.{committed_held}
use Rattle.pair_record.proofs.record.live.committed_frames.Goals as goal

pub returns-then-window-clause-held : goal.returns-then-window-clause-held
returns-then-window-clause-held c = c.held.ensures.held ∙ committed_held c.args.window c.args.gate.now.epochs c.requires c.if-window.true
