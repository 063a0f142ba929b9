-- what only models, private functions and proofs cite
pub mod LogFields
pub mod Packed
pub mod UnreadFields
pub mod Arrivals
pub mod JournalFields
pub mod NewFrames
pub mod Places
