mod Spellings
mod Sends
mod Receives
pub mod Creates
mod Destroys
mod Alones
pub mod Steps
mod Turns
pub mod Moves
pub mod Contexts
pub mod Worlds
