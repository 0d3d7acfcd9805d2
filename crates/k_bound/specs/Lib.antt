pub mod Sections
pub mod Waits
pub mod Chains
pub mod Hands
pub mod Logs
pub mod Worked
