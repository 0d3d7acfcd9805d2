pub mod Falls
pub mod Views
pub mod Steps
pub mod Supported
pub mod Moves
