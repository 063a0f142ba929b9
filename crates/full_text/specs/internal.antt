-- what only models, private functions and proofs cite
pub mod CutRecords
pub mod Fields
pub mod KeptFields
pub mod SearchFields
pub mod TailFields
pub mod TextFields
