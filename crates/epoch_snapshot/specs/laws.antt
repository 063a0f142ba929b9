-- Laws of these definitions, for the proofs above.
pub mod Blocks
pub mod Bytes
pub mod Ranges
pub mod Parts
pub mod Xored
pub mod Masks
pub mod Cuts
pub mod Canonical
pub mod Pages
pub mod Sectors
pub mod Images
