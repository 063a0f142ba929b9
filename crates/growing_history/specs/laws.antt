-- Laws of these definitions, which the proofs above cite: each is a fact of a line or two, and its proof stands below it.
pub mod Logs
pub mod Between
pub mod Prefixes
pub mod Sealed
pub mod Seats
pub mod Waiting
pub mod Texts
pub mod LinesFirst
pub mod MissedByBackup
pub mod Arrivals
