pub mod All
pub mod Distinct
pub mod Positions
pub mod Cuts
pub mod Options
