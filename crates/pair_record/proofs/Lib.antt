pub mod AloneLaws
pub mod LiveLaws
