pub mod Switches
pub mod Carriers
