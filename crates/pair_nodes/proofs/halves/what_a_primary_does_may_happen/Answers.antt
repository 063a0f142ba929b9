use Rattle.std.proofs.Common.{refl}
use Rattle.pair_nodes.proofs.HalfLaws.{ack_happens, alone_happens, cut_happens, full_happens, lone_happens, protect_happens, step_happens, text_happens}
use Rattle.pair_nodes.proofs.halves.what_a_primary_does_may_happen.Goals as goal

pub returns-clause-cut : goal.returns-clause-cut
returns-clause-cut c = cut_happens

pub returns-clause-text : goal.returns-clause-text
returns-clause-text c = text_happens

pub returns-clause-acknowledge : goal.returns-clause-acknowledge
returns-clause-acknowledge c = λ s ack free. (ack_happens s ack free, refl)

pub returns-clause-alone : goal.returns-clause-alone
returns-clause-alone c = λ s free few. (alone_happens s free few, refl)

pub returns-clause-protect : goal.returns-clause-protect
returns-clause-protect c = protect_happens

pub returns-clause-step : goal.returns-clause-step
returns-clause-step c = step_happens

pub returns-clause-full : goal.returns-clause-full
returns-clause-full c = full_happens

pub returns-clause-lone : goal.returns-clause-lone
returns-clause-lone c = lone_happens
