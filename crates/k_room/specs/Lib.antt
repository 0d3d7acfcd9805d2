pub mod Histories
pub mod Room
