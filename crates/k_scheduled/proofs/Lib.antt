pub mod Lines
pub mod Good
pub mod Carriers
pub mod Scheduled
