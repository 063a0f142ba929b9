pub mod Kinds
pub mod States
pub mod Registers
pub mod Transport
pub mod Serving
pub mod ServingLoop
