pub mod Broken
pub mod Got
pub mod Chains
