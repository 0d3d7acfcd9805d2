pub mod Spelled
pub mod Needs
pub mod Sections
