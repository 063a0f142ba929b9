pub mod internal
pub mod Listed
-- what public clauses cite of lower crates
pub use Rattle.arrayvec.specs.ArrayVec
