mod Cut
mod Judged
mod Options
mod Parts
mod Read
mod Spelled
pub mod Spelling
pub mod Unique
