pub mod Journals
pub mod Rule
pub mod Passes
