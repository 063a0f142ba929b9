pub mod Fitting
pub mod Found
pub mod Often
pub mod Returned
pub mod Signed
pub mod Written
