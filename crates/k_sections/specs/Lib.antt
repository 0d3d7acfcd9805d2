pub mod Words
pub mod Situations
pub mod Stepping
pub mod Forgetting
pub mod Kept
pub mod Worked
