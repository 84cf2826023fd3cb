pub mod Held
pub mod Whole
pub mod ActsAreSerialRun
pub mod ReplayByShards
pub mod PartsAreNumbered
