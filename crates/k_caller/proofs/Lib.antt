pub mod Owned
pub mod Begun
pub mod Resumed
pub mod Onward
pub mod Answered
