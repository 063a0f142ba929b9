pub mod internal
pub mod RunFile
pub mod Views
pub mod RunPrinted
