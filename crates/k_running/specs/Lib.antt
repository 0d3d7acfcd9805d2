pub mod Threads
pub mod Running
pub mod Turning
pub mod Runs
