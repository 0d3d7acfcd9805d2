pub mod Works
pub mod Owes
pub mod Owed
