pub mod Parted
pub mod Presences
pub mod Ranks
pub mod Responses
pub mod Tables
pub mod Words
