-- what only models, private functions and proofs cite
pub mod Committed
pub mod Live
pub mod SharedBytes
pub mod Texts
pub mod Tie
pub mod Told
pub mod Waits
