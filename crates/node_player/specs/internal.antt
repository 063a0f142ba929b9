-- what only private functions and proofs cite
pub mod Puts
pub mod Limited
pub mod Followed
