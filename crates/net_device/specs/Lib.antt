pub mod Errors
pub mod Frames
pub mod Limits
pub mod Transmit
pub mod Receive
pub mod Worked
-- what public clauses cite of lower crates
pub use Rattle.arrayvec.specs.ArrayVec
pub use Rattle.virtio_mmio.specs.States
