pub mod Parts
pub mod Courses
pub mod Conditions
pub mod Running
