pub mod Finished
pub mod Stays
