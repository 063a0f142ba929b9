pub mod Due
pub mod Handler
pub mod Masks
pub mod Table
