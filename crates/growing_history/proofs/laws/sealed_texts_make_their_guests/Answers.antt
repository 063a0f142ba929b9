use Rattle.growing_history.specs.laws.Texts.{made-nil, made-goes-on}
use Rattle.growing_history.proofs.TextLaws.{texts-in-turn}
use Rattle.growing_history.proofs.laws.sealed_texts_make_their_guests.Goals as goal

pub returns-clause-start : goal.returns-clause-start
returns-clause-start g c = made-nil g.T.Texts.reads

pub returns-clause-goes_on : goal.returns-clause-goes_on
returns-clause-goes_on g c = made-goes-on g.T.Texts.reads

pub returns-clause-in_turn : goal.returns-clause-in_turn
returns-clause-in_turn g c = texts-in-turn g.T.Texts.reads c.client_entries_go_first.ensures
