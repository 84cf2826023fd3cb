mod Sorted
pub mod Whole
pub mod Folded
pub mod Lasting
pub mod Rooms
mod Prefixes
mod MisfitWhole
pub mod Spelled
pub mod Begun
