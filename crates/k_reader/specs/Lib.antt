pub mod Draft
pub mod Reading
pub mod Refused
pub mod Grammar
