pub mod laws
pub mod Bytes
pub mod Limits
pub mod Listed
pub mod Pages
pub mod Stored
