pub mod Locks
pub mod Numbers
pub mod Outward
pub mod Ranges
pub mod Good
