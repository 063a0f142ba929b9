-- what only models, private functions and proofs cite
pub mod LinesFields
pub mod NodesFields
pub mod WorldFields
