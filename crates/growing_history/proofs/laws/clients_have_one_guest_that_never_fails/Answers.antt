use Rattle.growing_history.specs.LogState.{history_of}
use Rattle.growing_history.specs.laws.Logs.{history-begins}
use Rattle.growing_history.proofs.OwnEntries.{history-own}
use Rattle.growing_history.proofs.ServiceLaws.{history-legal, answered-there, landed-sent}
use Rattle.growing_history.proofs.laws.clients_have_one_guest_that_never_fails.Goals as goal

pub returns-clause-legal : goal.returns-clause-legal
returns-clause-legal c = history-legal

pub returns-clause-calls : goal.returns-clause-calls
returns-clause-calls c = history-own

pub returns-clause-answers : goal.returns-clause-answers
returns-clause-answers c = answered-there

pub returns-clause-landed : goal.returns-clause-landed
returns-clause-landed c =
    λ h xs d. landed-sent h (history_of h xs) d (c.released_frames_were_sent.ensures.sent h (history_of h xs) d)
    (c.released_frames_were_sent.ensures.sound h (history_of h xs) d)

pub returns-clause-grows : goal.returns-clause-grows
returns-clause-grows c = history-begins
