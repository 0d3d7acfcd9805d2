pub mod Messages
pub mod StateWords
pub mod LockWords
pub mod ContextWords
