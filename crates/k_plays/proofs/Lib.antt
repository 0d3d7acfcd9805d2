pub mod Messages
pub mod States
pub mod Tables
pub mod Calls
pub mod Outcomes
pub mod Noted
pub mod Points
pub mod Writes
