use Rattle.pair_book.proofs.{RunLaws.runs-on, StandingLaws.stands-on}
use Rattle.pair_book.proofs.laws.members_go_on.Goals as goal

pub returns-clause-runner : goal.returns-clause-runner
returns-clause-runner c = λ start seat now x begins legal own runs.
    let law = c.live_members_miss_nothing.ensures in
    runs-on start seat now x begins legal runs
    (law.handed start seat.steps now seat.number begins legal own)
    (law.frames start seat.steps now seat.number begins legal own)
    (law.epoch start seat.steps now seat.number begins legal own)

pub returns-clause-backup : goal.returns-clause-backup
returns-clause-backup c = λ start seat now image last sent first kept begins legal own stands.
    stands-on start seat now image last sent first kept begins legal own stands
