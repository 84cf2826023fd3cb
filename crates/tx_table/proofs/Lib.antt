pub mod Lookups
pub mod Keeping
pub mod Counting
pub mod Reading
pub mod Members
pub mod IndexKeeping
pub mod Laws
