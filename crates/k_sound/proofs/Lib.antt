pub mod Sends
pub mod Receives
pub mod Creates
pub mod Destroys
pub mod Switches
pub mod Alones
pub mod Threads
pub mod Contexts
