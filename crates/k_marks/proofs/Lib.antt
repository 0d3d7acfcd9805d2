pub mod Numbers
pub mod Contexts
pub mod Brief
pub mod Keeping
pub mod Boot
pub mod Moving
pub mod Flags
pub mod Runs
