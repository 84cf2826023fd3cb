pub mod Lines
pub mod Counts
pub mod Report
pub mod Sinks
pub mod Loads
pub mod Laws
