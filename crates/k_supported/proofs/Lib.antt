pub mod Ranks
pub mod Owners
pub mod Removals
pub mod Shown
pub mod Waits
pub mod Pushed
pub mod Made
