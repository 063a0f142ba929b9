-- Laws of these definitions, for the proofs above.
pub mod Cases
pub mod Sent
pub mod Counts
pub mod Aligned
pub mod Apart
pub mod Listed
pub mod Kept
pub mod Runs
