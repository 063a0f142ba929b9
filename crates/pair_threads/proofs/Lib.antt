pub mod ListLemmas
pub mod LineLemmas
pub mod SeatLemmas
pub mod ToldLemmas
pub mod AnswerLemmas
pub mod RunLemmas
