pub mod Changes
pub mod Performed
