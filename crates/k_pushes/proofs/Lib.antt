pub mod Told
pub mod Lasting
pub mod Kept
pub mod Carried
