pub mod Counting
pub mod Brief
pub mod Booted
pub mod Moved
pub mod Runs
