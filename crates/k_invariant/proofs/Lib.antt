pub mod Keeps
pub mod Starts
pub mod Runs
pub mod Rests
pub mod Waits
