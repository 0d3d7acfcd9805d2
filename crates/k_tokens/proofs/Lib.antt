pub mod Basics
pub mod Moves
pub mod Standing
pub mod Facts
pub mod Keeping
pub mod Sections
pub mod Claimed
pub mod Views
