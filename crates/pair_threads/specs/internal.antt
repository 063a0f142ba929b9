-- what only private functions and proofs cite
pub mod Scripts
pub mod Shown
