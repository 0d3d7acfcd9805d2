pub mod Versions
pub mod Popped
pub mod Changed
pub mod Kept
pub mod Masks
