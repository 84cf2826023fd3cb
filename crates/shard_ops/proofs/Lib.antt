pub mod Counting
pub mod Ranges
pub mod Planned
pub mod Purged
pub mod Giving
pub mod Laws
pub mod Entering
