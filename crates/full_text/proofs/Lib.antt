pub mod ZeroBlocks
pub mod RecordLemmas
pub mod KeptLemmas
pub mod TextLemmas
pub mod FullLemmas
pub mod PartLemmas
pub mod SearchLemmas
pub mod StageLemmas
