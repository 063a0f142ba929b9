-- Laws of these definitions, which the proofs above cite: each is a fact of a line or two, and its proof stands below it.
pub mod Epochs
pub mod Ports
pub mod Old
pub mod New
