pub mod Views
pub mod Moved
pub mod Switched
pub mod Told
pub mod Sums
