pub mod Kernels
pub mod Limits
