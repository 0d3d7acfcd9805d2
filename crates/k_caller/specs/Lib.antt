pub mod Waits
pub mod Owns
pub mod Activities
pub mod Threads
pub mod Seen
