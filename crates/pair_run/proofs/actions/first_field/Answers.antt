use Rattle.pair_run.proofs.FieldSplits.{first-field, only-field}
use Rattle.pair_run.proofs.actions.first_field.Goals as goal

pub returns-in-Some-clause-fields : goal.returns-in-Some-clause-fields
returns-in-Some-clause-fields c = (first-field c.args.text.now c.in-Some.field.now c.in-Some.rest.now c.in-Some.ensures).0

pub returns-in-Some-clause-shorter : goal.returns-in-Some-clause-shorter
returns-in-Some-clause-shorter c = (first-field c.args.text.now c.in-Some.field.now c.in-Some.rest.now c.in-Some.ensures).1

pub returns-in-None-clause-fields : goal.returns-in-None-clause-fields
returns-in-None-clause-fields c = only-field c.args.text.now c.in-None.ensures
