pub mod Cut
pub mod Feeds
pub mod Digits
pub mod WordForms
pub mod Spelled
pub mod Items
