pub mod internal
pub mod Lines
pub mod Refusals
