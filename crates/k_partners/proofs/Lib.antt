pub mod Ahead
pub mod Came
pub mod Turned
pub mod Partners
