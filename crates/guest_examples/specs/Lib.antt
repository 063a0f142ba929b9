pub mod Beacon
pub mod DiskGuest
pub mod Examples
