mod PortsLemmas
mod RaisedLemmas
mod RingLemmas
mod TargetLemmas
pub mod LandLaws
pub mod AddressLaws
