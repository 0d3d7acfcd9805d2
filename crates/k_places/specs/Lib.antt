pub mod Memory
pub mod Fits
pub mod Contexts
pub mod Shows
pub mod Asks
pub mod Answers
pub mod Boots
