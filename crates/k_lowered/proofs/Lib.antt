pub mod Goods
pub mod Shown
pub mod Owes
