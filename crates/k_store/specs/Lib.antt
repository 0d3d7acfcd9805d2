pub mod Stores
pub mod Conditions
