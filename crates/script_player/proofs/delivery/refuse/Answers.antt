use Rattle.script_player.proofs.delivery.refuse.Goals as goal

pub returns-else-are_lower_hex-clause-only : goal.returns-else-are_lower_hex-clause-only
returns-else-are_lower_hex-clause-only c = λ bytes h. absurd (c.are_lower_hex.ensures.none c.if-are_lower_hex.false bytes h)
