pub mod Words
pub mod Boards
pub mod Steps
pub mod Facts
pub mod Places
pub mod Moves
pub mod Turns
pub mod Boots
