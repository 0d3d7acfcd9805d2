pub mod Chosen
pub mod Held
pub mod ReceiveLaws
pub mod ReceiveRuns
pub mod Scanned
pub mod SendLaws
pub mod SendRuns
