pub mod Coming
pub mod Items
pub mod Undone
