pub mod Taken
pub mod Division
pub mod Counting
