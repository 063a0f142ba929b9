pub mod laws
pub mod Bases
pub mod Blocks
pub mod Checkpoints
pub mod Cuts
pub mod Images
pub mod Limits
