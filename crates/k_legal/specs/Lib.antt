pub mod Waiting
pub mod Follows
pub mod Runs
