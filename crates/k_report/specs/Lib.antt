pub mod Waits
pub mod Report
pub mod Totals
pub mod Putting
