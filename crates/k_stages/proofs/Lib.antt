pub mod Filling
pub mod Stages
pub mod Waking
pub mod Others
pub mod Opening
