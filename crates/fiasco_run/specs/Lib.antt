pub mod Calls
pub mod Exits
pub mod Scripts
pub mod Reported
pub mod Due
pub mod Served
pub mod Headline
