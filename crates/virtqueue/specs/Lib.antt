pub mod laws
pub mod Limits
pub mod Queues
pub mod Memory
pub mod Areas
pub mod Chains
pub mod Parts
pub mod Used
