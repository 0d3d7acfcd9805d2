pub mod Serves
pub mod Accepted
pub mod Large
pub mod Exact
pub mod One
pub mod Flushed
