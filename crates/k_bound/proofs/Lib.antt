pub mod Founds
pub mod Chains
pub mod Steps
pub mod Hands
pub mod Logs
pub mod Worked
