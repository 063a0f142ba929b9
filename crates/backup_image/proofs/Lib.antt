pub mod BlockLemmas
pub mod ImageLemmas
pub mod KeptLemmas
pub mod PutLemmas
pub mod RisingLemmas
pub mod StageLemmas
pub mod StreamLemmas
