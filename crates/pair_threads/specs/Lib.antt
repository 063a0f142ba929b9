pub mod internal
pub mod Lines
pub mod Runs
pub mod Seats
pub mod Served
pub mod Told
