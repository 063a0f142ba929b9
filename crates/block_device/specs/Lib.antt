pub mod Limits
pub mod Sectors
pub mod Listed
pub mod Dirty
pub mod Contents
pub mod Request
pub mod Disk
pub mod Errors
