-- What follows from these definitions, for the proofs above: each is a fact of a line or two, and its proof stands below it.
-- What an accord says of the guest that runs and of what the clients are owed; and that each event keeps it, as `take_accords`: the guest's
-- arrivals and moves, commits and the start here, then what clients do, epochs' ends, those of a guest that runs elsewhere, and failures.
pub mod Accords
pub mod Clients
pub mod Epochs
pub mod Handed
pub mod Alone
pub mod Live
pub mod NewBackups
-- That each event leaves what is true of every record, and of the numbers of frames, as `commit_record` and `commit_numbers`.
pub mod Records
pub mod Numbers
-- What a table of refusals says where it refuses nothing, and what a mode allows.
pub mod Tables
pub mod Modes
-- The window of checkpoints; and lists of frames that end with what the gate holds of committed ones, as a backup keeps them.
pub mod Windows
pub mod Owed
