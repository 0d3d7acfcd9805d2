pub mod Onward
pub mod SwitchLaws
pub mod SwitchRuns
