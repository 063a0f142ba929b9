pub mod Rules
pub mod Loop
pub mod Lengths
