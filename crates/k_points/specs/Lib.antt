pub mod Shown
pub mod Points
pub mod Starts
