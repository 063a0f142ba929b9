pub mod BlockLemmas
pub mod PageLemmas
pub mod PartLemmas
pub mod SideBySide
pub mod ZeroLemmas
