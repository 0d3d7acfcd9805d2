pub mod Costs
pub mod Shortest
mod Clean
mod Spellings
pub mod Layouts
mod Names
mod Parts
