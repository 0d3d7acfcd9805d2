pub mod Work
pub mod Near
