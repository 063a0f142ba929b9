-- what only models, private functions and proofs cite
pub mod Digits
pub mod Head
pub mod Playing
pub mod Serving
