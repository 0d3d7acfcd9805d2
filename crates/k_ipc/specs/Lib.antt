pub mod Words
pub mod Candidates
pub mod SendTable
pub mod ReceiveTable
