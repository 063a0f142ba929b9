use Rattle.script_player.proofs.player.booted.Goals as goal

pub returns-in_default-clause-none : goal.returns-in_default-clause-none
returns-in_default-clause-none c = λ line h. cc (rw c.in_default.is at (c.in_ok-boot.ensures.only line h))
