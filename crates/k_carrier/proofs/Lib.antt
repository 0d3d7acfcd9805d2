pub mod Owners
pub mod Tests
pub mod Sound
pub mod Asking
pub mod Pending
