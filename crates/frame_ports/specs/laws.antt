-- Laws of these definitions, which the proofs above cite: each is a fact of a line or two, and its proof stands below it.
pub mod Addresses
pub mod Lands
pub mod Numbers
