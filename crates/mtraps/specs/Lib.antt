pub mod laws
pub mod CsrTable
pub mod Interrupts
pub mod Status
pub mod Traps
