pub mod Words
pub mod Goods
pub mod Went
pub mod CreateTable
pub mod DestroyTable
