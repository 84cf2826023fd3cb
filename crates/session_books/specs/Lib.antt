pub mod Done
pub mod Told
pub mod Parts
pub mod Counts
pub mod Books
pub mod Laws
