pub mod Takes
pub mod Cut
pub mod ByLines
pub mod Dividing
pub mod Surely
