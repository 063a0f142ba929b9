pub mod InFront
pub mod Receiving
pub mod Lengths
pub mod Kept
pub mod Few
