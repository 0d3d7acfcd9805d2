pub mod Parts
pub mod Carriers
pub mod Schedule
pub mod Events
pub mod Turn
pub mod Bursts
pub mod Near
pub mod Worked
