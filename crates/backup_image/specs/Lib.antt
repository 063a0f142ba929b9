pub mod internal
pub mod Images
pub mod Kept
pub mod Limits
pub mod Refusals
pub mod Streams
