-- Laws of these definitions, which the proofs above cite: each is a fact of a line or two, and its proof stands below it.
pub mod Histories
pub mod Drops
pub mod Moves
pub mod Losses
pub mod Waiting
pub mod Waits
pub mod Landings
pub mod Leaving
pub mod Sorted
pub mod ClientLists
pub mod TakenIn
pub mod GoingLive
pub mod Joined
pub mod Epochs
pub mod Landed
