pub mod Walk
pub mod Inside
pub mod Gathered
pub mod Scattered
