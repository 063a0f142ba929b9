use Rattle.std.proofs.Common.{◌≡◌, ◌+◌, length, refl, ap, ◌∙◌, arith}
use Rattle.std.proofs.lemmas.List.Elements.{All-nil}
use Rattle.pair_history.specs.HistoryState.{at}
use Rattle.pair_history.specs.Released.{empty_account, account, WasSent}
use Rattle.pair_history.proofs.AccountLaws.{sound, account-append, released_later, sent_by_steps, on_way_fresh, boxed_fresh}
use Rattle.pair_history.proofs.laws.released_frames_were_sent.Goals as goal

pub returns-clause-sent : goal.returns-clause-sent
returns-clause-sent c s es client =
    sent_by_steps client s 0 empty_account es (WasSent s es client) (All-nil (WasSent s es client)) (λ k f h.
    let same : k ≡ 0 + k = omega arith in rw same at h)

pub returns-clause-sound : goal.returns-clause-sound
returns-clause-sound c s es client = sound client s 0 empty_account es (record { in_order = tt; taken_in_order = tt; none_missing = refl })

pub returns-clause-stays : goal.returns-clause-stays
returns-clause-stays c s es more client =
    let later = released_later client (at s es) (length es + 0) (account s es client) more in
    (later.0, ap (λ a. a.released) (account-append client s 0 empty_account es more) ∙ later.1)

pub returns-clause-released : goal.returns-clause-released
returns-clause-released c s es client fresh = (on_way_fresh s es client fresh).released

pub returns-clause-taken : goal.returns-clause-taken
returns-clause-taken c s es client fresh legal low = (boxed_fresh s es client fresh legal low).taken

pub returns-clause-dropped : goal.returns-clause-dropped
returns-clause-dropped c s es client fresh legal low = omega (arith, (boxed_fresh s es client fresh legal low).dropped)
