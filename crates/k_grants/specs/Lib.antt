pub mod Views
pub mod Pushes
pub mod Granted
