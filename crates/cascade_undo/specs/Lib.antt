pub mod Writes
pub mod Steps
pub mod Dependencies
pub mod Pairs
pub mod Marking
pub mod Kept
pub mod Counts
