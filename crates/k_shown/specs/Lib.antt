pub mod Words
pub mod Memory
pub mod Sound
pub mod Leaves
pub mod Boot
pub mod Rows
