mod Pending
mod ReadShapes
mod Sized
mod Bounding
mod Taking
pub mod Places
pub mod Coming
pub mod Series
pub mod NameLaws
pub mod Counts
pub mod Outs
pub mod PairEvents
pub mod Bags
pub mod Then
pub mod CutMatches
pub mod SendMatches
pub mod GetMatches
pub mod HearMatches
pub mod StopMatches
pub mod Losses
pub mod LiveMatches
pub mod StepMatches
pub mod LoneMatches
pub mod ProtectMatches
pub mod ClientMatches
pub mod Happenings
pub mod Covered
pub mod Exact
pub mod Runs
pub mod HalfLaws
