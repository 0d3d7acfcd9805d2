pub mod Shown
pub mod Lowered
