pub mod Tasks
pub mod Queues
