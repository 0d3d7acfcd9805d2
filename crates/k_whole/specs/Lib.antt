pub mod Whole
pub mod Next
