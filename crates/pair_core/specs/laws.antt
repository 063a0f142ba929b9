-- What follows from these definitions, for the proofs above: each is a fact of a line or two, and its proof stands below it.
-- What holds between events (`Invariant`) gives what contracts say of a pair.
pub mod Consistent
-- Each event keeps it, as `cut_holds` and `take_holds`: the record's part is a law of pair_record, and here stands the nodes'.
pub mod Events
pub mod ClientEvents
pub mod AllLands
pub mod GoneLive
pub mod Protected
-- The nodes, what packets name, and what an image keeps, after each event that moves them.
pub mod Nodes
pub mod Commits
pub mod Lines
pub mod Kept
pub mod OnTheirWay
-- What each event is answered: it sees what the pair has, as `cut_sees_the_pair`, and its table decides, as `done_if_none_refuses` and
-- `admit_is_refused`.
pub mod Outcomes
pub mod Losses
-- So many steps of the guest are what the protocol answers, as `steps_answered`: in a pair, and where a node is alone.
pub mod Steps
pub mod LoneSteps
-- The ways in which an event may end; and of each way, so of every answer, what it drops and lets out, what its entries tell of calls, which
-- of the guest's entries it lets in, and how it answers a call.
pub mod Ends
pub mod Drops
pub mod Tells
pub mod Enters
pub mod Calls
-- So an event serves the clients (`one_event_serves`), and so do steps in one call (`steps_serve`).
pub mod Serves
pub mod StepsServed
-- What holds along events and their replies.
pub mod Along
