pub mod EntrySpelled
pub mod Positions
