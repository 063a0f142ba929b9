use Rattle.growing_history.specs.laws.Logs.{history-lawful, history-stands, marks-rise}
use Rattle.growing_history.proofs.laws.unmarked_histories_are_legal.Goals as goal

pub returns-clause-legal : goal.returns-clause-legal
returns-clause-legal c = history-lawful

pub returns-clause-stands : goal.returns-clause-stands
returns-clause-stands c = history-stands

pub returns-clause-marks : goal.returns-clause-marks
returns-clause-marks c = marks-rise
