-- What follows from these definitions, for the proofs above: each is a fact of a line or two, and its proof stands below it.
pub mod EpochWords
