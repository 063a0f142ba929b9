mod ListLemmas
pub mod TextLemmas
pub mod FieldLemmas
pub mod CommandLemmas
pub mod WordsLemmas
mod GuestLemmas
pub mod BootLemmas
pub mod ImageLemmas
pub mod DeliveryLemmas
pub mod DigitLemmas
pub mod LaneLemmas
pub mod DiskLemmas
mod MeaningLemmas
mod LineLemmas
mod OpenLines
mod UnfollowedLines
pub mod ScriptLemmas
mod RunLemmas
mod SessionLemmas
mod LiveLemmas
mod ReplyLemmas
mod ListingLemmas
