pub mod Maps
pub mod World
pub mod Steps
pub mod Good
pub mod Grants
pub mod Claims
pub mod Views
