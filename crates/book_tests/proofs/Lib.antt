pub mod EpochOfSteps
pub mod Repeats
pub mod CallsInTurn
pub mod HostLaws
