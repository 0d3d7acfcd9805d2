pub mod StateSpelled
pub mod LockSpelled
pub mod ContextSpelled
pub mod MessagePacked
