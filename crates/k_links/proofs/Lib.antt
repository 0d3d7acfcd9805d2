pub mod Appended
pub mod Removed
pub mod Counted
pub mod Walked
pub mod Linked
