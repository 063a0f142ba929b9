use Rattle.pair_core.proofs.ModeRows.{mode_left, rows_refuse}
use Rattle.pair_core.proofs.mode_laws.modes_change_by_failovers_table.Goals as goal

pub returns-clause-refused : goal.returns-clause-refused
returns-clause-refused c = rows_refuse

pub returns-clause-leaves : goal.returns-clause-leaves
returns-clause-leaves c start old new event reply = mode_left start old new event reply
