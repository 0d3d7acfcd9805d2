pub mod Alone
pub mod CreateAlone
pub mod DestroyAlone
pub mod SendAlone
pub mod ReceiveAlone
