pub mod FieldSplits
pub mod ActionLemmas
pub mod ReadingLemmas
pub mod PrintingLemmas
