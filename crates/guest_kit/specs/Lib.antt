pub mod Beacon
pub mod Counter
pub mod Disk
pub mod Echo
pub mod Idle
pub mod Image
pub mod Registers
pub mod Rings
