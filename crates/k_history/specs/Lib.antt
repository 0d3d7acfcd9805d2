pub mod Fits
pub mod Inside
pub mod Judging
pub mod Lines
pub mod Reading
pub mod Verdicts
