pub mod internal
pub mod Full
pub mod MachineTexts
pub mod Stages
pub mod UsedPages
