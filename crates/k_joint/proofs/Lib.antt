pub mod Switchings
pub mod SwitchSteps
pub mod Sections
pub mod Runs
pub mod Carried
pub mod Grabs
pub mod Moves
