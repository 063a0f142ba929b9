use Rattle.growing_history.specs.Steps.{step}
use Rattle.growing_history.proofs.seats.KeeperSeat.step_alone.Given as goal

-- the step that the call stands for, under the number of the seat that is joined into the keeper's
abbrev pub ghosts-count : goal.ghosts-count
ghosts-count g a = record { step = step a.keeper.now.me.0.number (g.W.Tells.what a._what.now) }
