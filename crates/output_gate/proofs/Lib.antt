mod GateLemmas
mod EpochLemmas
mod Receivers
mod StepLemmas
pub mod EpochLaws
pub mod LandedLaws
