pub mod Listed
pub mod Links
