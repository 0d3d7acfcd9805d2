pub mod Switch
pub mod Rules
pub mod Boot
pub mod Claims
pub mod Trace
