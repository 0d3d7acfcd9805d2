pub mod Stages
pub mod Opening
