pub mod Opens
pub mod Starts
