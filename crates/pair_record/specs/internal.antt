-- what only models, private functions and proofs cite
pub mod RecordFields
