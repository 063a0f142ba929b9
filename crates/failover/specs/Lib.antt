pub mod internal
pub mod Changes
pub mod Generations
pub mod Refusals
pub mod Words
pub mod Modes
