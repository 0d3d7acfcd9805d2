pub mod Lists
pub mod Popped
pub mod Kept
