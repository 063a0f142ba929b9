use Rattle.growing_history.specs.laws.Logs.{live-rise}
use Rattle.growing_history.proofs.SeatNumbers.{seats-apart}
use Rattle.growing_history.proofs.laws.live_numbers_rise.Goals as goal

pub returns-clause-rise : goal.returns-clause-rise
returns-clause-rise c = live-rise

pub returns-clause-apart : goal.returns-clause-apart
returns-clause-apart c = seats-apart
