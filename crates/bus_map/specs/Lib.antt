pub mod AddressMap
pub mod Limits
