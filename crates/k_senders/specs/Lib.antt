pub mod Entries
pub mod Queue
pub mod Places
