pub mod Keeping
pub mod Words
pub mod Verbs
pub mod Texts
pub mod Meanings
pub mod Steps
pub mod Unique
pub mod Sizes
pub mod Progress
pub mod Plain
pub mod Lists
pub mod Bounds
mod Narrow
pub mod Laws
